-- From the promise of `settle` to the laws of the hour: the number returned is that of the first refusal, and where there is none
-- each cell of the lent lists is the hour's. Assumes nothing.
use Rattle.std.specs.Prelude.{Ok, Err}
use Prim.Native.Nat.{ℕ, ◌+◌, ◌*◌, ◌≤◌, ◌<◌}
use native.Mathlib.Omega.{arith}
use mathlib.Core.Bool.{Bool}
use mathlib.Core.List.{List}
use mathlib.Core.Path.{◌≡◌, refl, ap, ◌∙◌, sym}
use lib.IntN.{pos}
use Rattle.sums.specs.Sums.{sum, pick}
use Rattle.sums.specs.Lists.{at}
use Rattle.sums.proofs.Sums.{sum_eq}
use Rattle.refusals.specs.Refusals.{Verdict}
use Rattle.merit.specs.Merit.{cost}
use Rattle.sheet.specs.Reading.{counts_of, read_verdict, read_of}
use Rattle.columns.specs.Columns.{hour_of}
use Rattle.hour.specs.Sheet.{Sheet}
use Rattle.hour.specs.Sound.{Sound}
use Rattle.hour.specs.Balance.{losses, loss_share, hour_demand, dispatch_demand}
use Rattle.hour.specs.Lines.{scheduled, amount, contracted, bought, sold, money, cells_per_agent, figure}
use Rattle.hour.specs.Signed.{signed_sum}
use Rattle.hour.specs.Answer.{Lent, share_in, contracted_in, bought_in, sold_in, money_in, schedule_in, amount_in}
use Rattle.hour.specs.Answer.{balance_verdict, cover_verdict, room_verdict, hour_verdict, summary_of}
use Rattle.hour.specs.declared.Summary.{Summary}
use Rattle.hour.proofs.Verdicts.{Balanced, balanced}
use Rattle.hour.proofs.Cells.{share_told, contracted_told, bought_told, sold_told}
use Rattle.hour.proofs.Money.{signed_eq}
use Rattle.hour.proofs.Demand.{small_within, loss_shares, demand_delivered, generators_metered}
use Rattle.hour.proofs.Balance.{schedule_possible, schedule_cheapest, contracted_buyers, contracted_sellers, bought_sold, money_none}
use Rattle.columns.proofs.Columns.{sound}
use Rattle.settle.specs.Settled.{verdict_of, Settled}
use Rattle.duties.specs.Result.{small_exports_in, dispatch_in, agents_of, plants_of, contracts_of}
use Rattle.duties.specs.Result.{retailer_in, generator_in, generated_in, PossibleFor, cost_of, Passes}
use Rattle.refusals.specs.Refusals.{number_of}
use Rattle.columns.proofs.Numbers.{in_order}

summary_number : (v : Verdict) (s : Sheet) → (summary_of v s).number ≡ number_of v
summary_number (Ok _) s = refl
summary_number (Err q) s = refl

-- a sheet that passes is sound
pub passes_sound : (bytes : List ℕ) → Passes bytes → Sound (hour_of bytes)
unfolding read_of hour_of
passes_sound bytes p = sound bytes (counts_of bytes) (rw p.read)

pub verdict_is : (bytes : List ℕ) (lent : Lent)
    → verdict_of bytes lent ≡ in_order (read_verdict bytes) (balance_verdict (hour_of bytes)) (cover_verdict (hour_of bytes))
    (room_verdict (hour_of bytes) lent)
unfolding verdict_of hour_verdict
verdict_is bytes lent = refl

-- the number returned is that of the first refusal
pub number_is : (bytes : List ℕ) (before after : Lent) (r : Summary) → Settled bytes before after r
    → r.number ≡ number_of (in_order (read_verdict bytes) (balance_verdict (hour_of bytes)) (cover_verdict (hour_of bytes))
    (room_verdict (hour_of bytes) before))
number_is bytes before after r done =
    ap (λ (x : Summary). x.number) done.answered ∙ summary_number (verdict_of bytes before) (hour_of bytes)
    ∙ ap number_of (verdict_is bytes before)

-- ---- a settled hour
pub record Hour (bytes : List ℕ) (before after : Lent) (r : Summary) : Type 0 where
  pub done : Settled bytes before after r
  pub passes : Passes bytes
  pub cover : cover_verdict (hour_of bytes) ≡ Ok tt
  pub fine : verdict_of bytes before ≡ Ok tt

module _ {bytes : List ℕ} {before after : Lent} {r : Summary} (h : Hour bytes before after r) where
  pub summary_is : r ≡ summary_of (Ok tt) (hour_of bytes)
  summary_is = h.done.answered ∙ rw h.fine

  pub number_none : r.number ≡ 0
  number_none = ap (λ (x : Summary). x.number) summary_is

  demand_is : r.demand ≡ hour_demand (hour_of bytes)
  demand_is = ap (λ (x : Summary). x.demand) summary_is

  losses_is : r.losses ≡ losses (hour_of bytes)
  losses_is = ap (λ (x : Summary). x.losses) summary_is

  -- ---- the lists, cell by cell
  pub figure_at : (k : ℕ) → k < cells_per_agent * agents_of bytes → at after.figures k ≡ figure (hour_of bytes) k
  figure_at k l = h.done.figures.done k (rw h.fine l)

  share_at_lem : (a : ℕ) → a < agents_of bytes → share_in after a ≡ loss_share (hour_of bytes) a
  share_at_lem = share_told (hour_of bytes) after figure_at

  contracted_at : (a : ℕ) → a < agents_of bytes → contracted_in after a ≡ contracted (hour_of bytes) a
  contracted_at = contracted_told (hour_of bytes) after figure_at

  bought_at : (a : ℕ) → a < agents_of bytes → bought_in after a ≡ bought (hour_of bytes) a
  bought_at = bought_told (hour_of bytes) after figure_at

  sold_at_lem : (a : ℕ) → a < agents_of bytes → sold_in after a ≡ sold (hour_of bytes) a
  sold_at_lem = sold_told (hour_of bytes) after figure_at

  pub money_at : (a : ℕ) → a < agents_of bytes → money_in after a ≡ money (hour_of bytes) a
  money_at a l = h.done.money.done a (rw h.fine l)

  schedule_at : (i : ℕ) → i < plants_of bytes → schedule_in after i ≡ scheduled (hour_of bytes) i
  schedule_at i l = h.done.schedule.done i (rw h.fine l)

  pub amount_at_lem : (j : ℕ) → j < contracts_of bytes → amount_in after j ≡ amount (hour_of bytes) j
  amount_at_lem j l = h.done.amounts.done j (rw h.fine l)

  -- ---- the laws of the hour, of the lists
  pub sheet_sound : Sound (hour_of bytes)
  sheet_sound = passes_sound bytes h.passes

  sheet_balanced : Balanced (hour_of bytes)
  sheet_balanced = balanced (hour_of bytes) h.passes.balance

  -- small generators deliver no more than the demand
  pub demand_parted : dispatch_in bytes + small_exports_in bytes ≡ r.demand
  unfolding dispatch_demand hour_demand
  demand_parted = omega (arith, demand_is, small_within (hour_of bytes) sheet_sound sheet_balanced)

  pub list_possible : PossibleFor bytes (dispatch_in bytes) (schedule_in after)
  list_possible =
      let p = schedule_possible (hour_of bytes) sheet_sound h.cover in
      record {
        enough = λ i l. omega (arith, schedule_at i l, p.enough i l);
        within = λ i l. omega (arith, schedule_at i l, p.within i l);
        meets =
            sum_eq (plants_of bytes) (schedule_in after) (scheduled (hour_of bytes)) schedule_at ∙ p.meets;
      }

  pub list_cheapest : (q : ℕ → ℕ) → PossibleFor bytes (dispatch_in bytes) q → cost_of bytes (schedule_in after) ≤ cost_of bytes q
  unfolding cost
  list_cheapest q p =
      let offer = at (hour_of bytes).offers in
      omega (
        arith,
        sum_eq (plants_of bytes) (λ i. offer i * schedule_in after i) (λ i. offer i * scheduled (hour_of bytes) i)
            (λ i l. ap (λ (x : ℕ). offer i * x) (schedule_at i l)),
        schedule_cheapest (hour_of bytes) sheet_sound h.cover q p,
      )

  pub list_balanced : sum (agents_of bytes) (bought_in after) ≡ sum (agents_of bytes) (sold_in after)
  list_balanced =
      sum_eq (agents_of bytes) (bought_in after) (bought (hour_of bytes)) bought_at
      ∙ bought_sold (hour_of bytes) sheet_sound h.cover sheet_balanced
      ∙ sym (sum_eq (agents_of bytes) (sold_in after) (sold (hour_of bytes)) sold_at_lem)

  pub demand_generated : r.demand ≡ generated_in bytes
  demand_generated =
      demand_is ∙ demand_delivered (hour_of bytes) sheet_balanced ∙ generators_metered (hour_of bytes) sheet_sound

  pub list_shares : sum (agents_of bytes) (share_in after) ≡ r.losses
  list_shares =
      sum_eq (agents_of bytes) (share_in after) (loss_share (hour_of bytes)) share_at_lem
      ∙ loss_shares (hour_of bytes) sheet_balanced
      ∙ sym losses_is

  -- over agents of one kind
  list_contracted : (kind : ℕ → Bool)
      → sum (agents_of bytes) (λ a. pick (kind a) (contracted (hour_of bytes) a))
      ≡ sum (contracts_of bytes) (amount (hour_of bytes))
      → sum (agents_of bytes) (λ a. pick (kind a) (contracted_in after a)) ≡ sum (contracts_of bytes) (amount_in after)
  list_contracted kind e =
      sum_eq (agents_of bytes) (λ a. pick (kind a) (contracted_in after a))
      (λ a. pick (kind a) (contracted (hour_of bytes) a)) (λ a l. ap (pick (kind a)) (contracted_at a l))
      ∙ e
      ∙ sym (sum_eq (contracts_of bytes) (amount_in after) (amount (hour_of bytes)) amount_at_lem)

  pub list_buyers : sum (agents_of bytes) (λ a. pick (retailer_in bytes a) (contracted_in after a))
      ≡ sum (contracts_of bytes) (amount_in after)
  list_buyers = list_contracted (retailer_in bytes) (contracted_buyers (hour_of bytes) sheet_sound)

  pub list_sellers : sum (agents_of bytes) (λ a. pick (generator_in bytes a) (contracted_in after a))
      ≡ sum (contracts_of bytes) (amount_in after)
  list_sellers = list_contracted (generator_in bytes) (contracted_sellers (hour_of bytes) sheet_sound)

  pub list_money : signed_sum (agents_of bytes) (money_in after) ≡ pos 0
  list_money =
      signed_eq (agents_of bytes) (money_in after) (money (hour_of bytes)) money_at
      ∙ money_none (hour_of bytes) sheet_sound h.cover sheet_balanced
