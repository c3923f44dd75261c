-- The columns are the sheet's, so the verdict is. Where it is fine, what is consumed becomes commercial demand with the shares, and what is
-- delivered, where it is a small generator's, own energy with that.
use Rattle.std.proofs.Common.{◌≡◌, ℕ, ◌+◌, arith, sym, ap, ap₂, ◌∙◌, rules, Result, Ok}
use Rattle.balance.specs.declared.Weight.{Weight}
use Rattle.refusals.specs.declared.Refusal.{Refusal}
use Rattle.sums.proofs.Fill.{filled_by, filled_count, filled_then}
use Rattle.sheet.proofs.Accepted.{accepted_few}
use Rattle.columns.proofs.Columns.{agents_long, sound}
use Rattle.balance.proofs.Weighed.{leaves, verdict, lost, shared, demands, injects, all_is, target, within, most, fits, refused}
use Rattle.balance.proofs.Found.{found_within}
use Rattle.balance.proofs.weigh_read.Goals as goal

abbrev told : (losses demand target : ℕ) → Result Weight Refusal
told l d t = Ok (record { losses = l; demand = d; target = t })

ap₃ : (f : ℕ → ℕ → ℕ → Result Weight Refusal) {a b x y u w : ℕ} → a ≡ b → x ≡ y → u ≡ w → f a x u ≡ f b y w
ap₃ f p q r = rw (p, q, r)

pub overflow_add-leaving : goal.overflow_add-leaving
overflow_add-leaving c =
    omega (arith, leaves _ (sound _ _ c.requires) _ (agents_long _ _) _ _ _ _ _ _ _ _ _ c.read_columns-m.ensures)

pub judge-requires : goal.judge-requires
judge-requires c = rw c.read_columns-m.ensures.over (found_within _ _ _ (accepted_few _ _ c.requires).agents)

pub returns-in_err-judge : goal.returns-in_err-judge
returns-in_err-judge c =
    let v = verdict _ (sound _ _ c.requires) _ (agents_long _ _) _ _ _ _ _ _ _ _ _ c.read_columns-m.ensures in
    refused _ _ c.in_err-judge.field-0.0 _ _ _ (sym v ∙ sym c.judge.ensures ∙ c.in_err-judge.was) (search rules)

pub shared_ref_as_front-share : goal.shared_ref_as_front-share
shared_ref_as_front-share c = omega (arith, (accepted_few _ _ c.requires).agents)

pub add_shares-d-requires : goal.add_shares-d-requires
add_shares-d-requires c =
    let r = c.read_columns-m.ensures in
    let few = (accepted_few _ _ c.requires).agents in
    let ok = sound _ _ c.requires in
    let n = agents_long c.args.s.now c.args.c in
    let v = verdict _ ok _ n _ _ _ _ _ _ _ _ _ r in
    let s = shared _ ok _ n _ _ _ _ _ _ _ _ _ r _ _ _ few (omega arith) (omega arith) c.share.ensures in (
      few,
      omega (arith, few),
      omega (arith, few),
      fits _ ok _ n _ _ _ _ _ _ _ _ _ r _ (demands _ _ _ _ _ _ r.used s) (sym v ∙ sym c.judge.ensures ∙ c.in_ok-judge.was),
    )

pub overflow_add-demand : goal.overflow_add-demand
overflow_add-demand c =
    let r = c.read_columns-m.ensures in
    let few = (accepted_few _ _ c.requires).agents in
    let ok = sound _ _ c.requires in
    let n = agents_long c.args.s.now c.args.c in
    let v = verdict _ ok _ n _ _ _ _ _ _ _ _ _ r in
    let s = shared _ ok _ n _ _ _ _ _ _ _ _ _ r _ _ _ few (omega arith) (omega arith) c.share.ensures in
    let d = demands _ _ _ _ _ _ r.used s in
    omega (
      arith,
      c.add_shares-d.ensures.all,
      all_is _ ok _ n _ _ _ _ _ _ _ _ _ r _ d,
      most _ ok _ n _ _ _ _ _ _ _ _ _ r _ d (sym v ∙ sym c.judge.ensures ∙ c.in_ok-judge.was),
    )

pub overflow_sub-result : goal.overflow_sub-result
overflow_sub-result c =
    let r = c.read_columns-m.ensures in
    let few = (accepted_few _ _ c.requires).agents in
    let ok = sound _ _ c.requires in
    let n = agents_long c.args.s.now c.args.c in
    let v = verdict _ ok _ n _ _ _ _ _ _ _ _ _ r in
    let s = shared _ ok _ n _ _ _ _ _ _ _ _ _ r _ _ _ few (omega arith) (omega arith) c.share.ensures in
    let d = demands _ _ _ _ _ _ r.used s in
    omega (
      arith,
      c.add_shares-d.ensures.all,
      c.add_shares-d.ensures.small,
      all_is _ ok _ n _ _ _ _ _ _ _ _ _ r _ d,
      within _ ok _ n _ _ _ _ _ _ _ _ _ r _ d (sym v ∙ sym c.judge.ensures ∙ c.in_ok-judge.was),
    )

pub returns : goal.returns
returns c =
    let r = c.read_columns-m.ensures in
    let few = (accepted_few _ _ c.requires).agents in
    let ok = sound _ _ c.requires in
    let n = agents_long c.args.s.now c.args.c in
    let v = verdict _ ok _ n _ _ _ _ _ _ _ _ _ r in
    let s = shared _ ok _ n _ _ _ _ _ _ _ _ _ r _ _ _ few (omega arith) (omega arith) c.share.ensures in
    let d = demands _ _ _ _ _ _ r.used s in
    let f = sym v ∙ sym c.judge.ensures ∙ c.in_ok-judge.was in
    let added = c.add_shares-d.ensures in
    let demand = ap (λ (x : ℕ). x + c.read_columns-m.result.drawn) added.all ∙ all_is _ ok _ n _ _ _ _ _ _ _ _ _ r _ d in
    let m = sym n in
    record {
      answer = rw f (ap₃ told (lost _ ok _ n _ _ _ _ _ _ _ _ _ r) demand (target _ ok _ n _ _ _ _ _ _ _ _ _ r _ d _ _ demand added.small));
      columns =
          λ e. record {
            kinds = filled_count 0 _ _ _ _ _ m r.kinds;
            shares = filled_count 0 _ _ _ _ _ m s;
            commercial = filled_count 0 _ _ _ _ _ m (filled_by 0 _ _ _ _ _ d (filled_then 0 _ _ _ _ _ _ r.used added.commercial));
            own =
                filled_count 0 _ _ _ _ _ m
                (filled_by 0 _ _ _ _ _ (λ a l. ap₂ ◌+◌ (d a l) (injects _ ok _ n _ _ _ _ _ _ _ _ _ r _ d a l))
                (filled_then 0 _ _ _ _ _ _ r.given added.own));
            imports = filled_count 0 _ _ _ _ _ m r.taken;
          };
    }
