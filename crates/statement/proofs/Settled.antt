-- The lists of our own settlement, of any sheet that settles, meet the five points: our tie rules and roundings are among those
-- that a statement may have. Assumes nothing.
use Rattle.std.specs.Prelude.{Ok}
use Prim.Native.Nat.{ℕ, ◌-◌, ◌*◌, ◌<◌}
use native.Mathlib.Omega.{arith}
use mathlib.Core.Bool.{cond}
use mathlib.Core.Path.{◌≡◌, refl, ap, ap₂, ◌∙◌, sym}
use Rattle.sums.specs.Lists.{at, total, list_to}
use Rattle.sums.proofs.Sums.{sum_eq, peak_eq}
use Rattle.sums.proofs.Keyed.{keyed_eq}
use Rattle.sums.proofs.Lists.{list_to_eq}
use Rattle.share.proofs.Laws.{share_near, share_no_total}
use Rattle.merit.specs.Merit.{hour_price}
use Rattle.merit.proofs.LeastCost.{possible_eq}
use Rattle.merit.proofs.MustRun.{ideal_merit}
use Rattle.hour.specs.Sheet.{Sheet, agents, plants, contracts, retails, outside}
use Rattle.hour.specs.Sound.{Sound}
use Rattle.hour.specs.Balance.{consumption, consumed, losses, consumptions, loss_share, commercial}
use Rattle.hour.specs.Balance.{demands, injected, small_exports, dispatch_demand_by, dispatch_demand}
use Rattle.hour.specs.Lines.{scheduled, bolsa_price, amount, own_by, contracted_by, own, contracted, bought, sold, money, money_of, figure}
use Rattle.hour.specs.Answer.{Lent, cover_verdict, share_in, schedule_in, amount_in, money_in}
use Rattle.hour.proofs.Verdicts.{Balanced}
use Rattle.hour.proofs.Demand.{weight_at, weights_total, generator_share, loss_shares}
use Rattle.hour.proofs.Balance.{schedule_possible}
use Rattle.hour.proofs.Cells.{share_told, own_told, import_told, contracted_told, bought_told, sold_told}
use Rattle.statement.specs.Follows.{Near}
use Rattle.statement.specs.Points.{demand_in, least, basis_in, SharesFollow, ScheduleFollows}
use Rattle.statement.specs.Points.{PriceFollows, AmountsFollow, LineFollows, Holds}
use Rattle.statement.proofs.Hours.{hour_settled}

-- the lists hold what the definitions say, in the cells that the counts ask for
pub record Tells (s : Sheet) (l : Lent) : Type 0 where
  pub figures : (k : ℕ) → k < 6 * agents s → at l.figures k ≡ figure s k
  pub money : (a : ℕ) → a < agents s → money_in l a ≡ money s a
  pub schedule : (i : ℕ) → i < plants s → schedule_in l i ≡ scheduled s i
  pub amounts : (j : ℕ) → j < contracts s → amount_in l j ≡ amount s j

module _ (s : Sheet) (ok : Sound s) (b : Balanced s) (fine : cover_verdict s ≡ Ok tt) (l : Lent) (t : Tells s l)
  where
    share_is : (a : ℕ) → a < agents s → share_in l a ≡ loss_share s a
    share_is = share_told s l t.figures

    demand_is : (a : ℕ) → a < agents s → demand_in s l a ≡ commercial s a
    unfolding commercial
    demand_is a h = omega (arith, share_is a h)

    -- 21
    share_near_is : (a : ℕ)
        → a < agents s
        → 0 < consumed s
        → Near (losses s) (consumption s a) (consumed s) (share_in l a)
    unfolding loss_share
    share_near_is a h some =
        let w : 0 < total (consumptions s) = omega (arith, weights_total s) in
        let n = share_near (losses s) (consumptions s) w a in
        rw (share_is a h, ← weights_total s, ← weight_at s a h) (record { over = n.0; under = n.1 })

    ours_shares : SharesFollow s l
    unfolding loss_share
    ours_shares =
        record {
          whole = sum_eq (agents s) (share_in l) (loss_share s) share_is ∙ loss_shares s b;
          near = λ a h r p. share_near_is a h p;
          generator = λ a h e. share_is a h ∙ generator_share s a h e;
          nobody = λ a h z. share_is a h ∙ share_no_total (losses s) (consumptions s) a (weights_total s ∙ z);
        }

    -- 22
    demand_whole : dispatch_demand_by s (demand_in s l) ≡ dispatch_demand s
    unfolding dispatch_demand
    demand_whole =
        ap (λ (d : ℕ). d - small_exports s) (sum_eq (agents s) _ _ (λ a h. omega (arith, demand_is a h)))

    ours_schedule : ScheduleFollows s l
    unfolding scheduled
    ours_schedule =
        record {
          possible = rw demand_whole
              (possible_eq (least s) (at s.available) (plants s) (dispatch_demand s) (scheduled s) (schedule_in l)
              (λ i h. sym (t.schedule i h)) (schedule_possible s ok fine));
          merit = record {
            order =
                λ i j h k m r. (ideal_merit (at s.offers) (least s) (at s.available) (plants s) (dispatch_demand s)
                (λ i h. (ok.plant i h).must_run)).order i j h k (omega (arith, t.schedule i h))
                (omega (arith, t.schedule j k));
          };
        }

    -- 23
    ours_price : PriceFollows s (bolsa_price s) l
    unfolding bolsa_price hour_price
    ours_price = sym (peak_eq (plants s) _ _ (λ i h. rw (t.schedule i h)))

    -- 24
    ours_amounts : AmountsFollow s l
    unfolding amount demands
    ours_amounts =
        let same : list_to (demand_in s l) (agents s) ≡ demands s = list_to_eq _ _ (agents s) demand_is in
        rw same
        (hour_settled s.deals (λ j h. (ok.contract j (omega (arith, ok.whole.buyers))).least) (demands s)
        l.amounts
        (λ j h. t.amounts j (omega (arith, ok.whole.buyers))))

    -- 25
    own_is : (a : ℕ) → a < agents s → own s a ≡ own_by s (basis_in s l) a
    unfolding own
    own_is a h =
        ap₂ (λ (x y : ℕ). cond (retails s a) x (cond (outside s a) (injected s a) y)) (sym (demand_is a h))
        (keyed_eq (at s.holders) (at s.holders) (scheduled s) (schedule_in l) (plants s) a (λ i k. refl)
        (λ i k. sym (t.schedule i k)))

    held_is : (a : ℕ) → contracted s a ≡ contracted_by s (basis_in s l) a
    unfolding contracted
    held_is a =
        ap₂ (λ (x y : ℕ). cond (retails s a) x y)
        (keyed_eq (at s.deals.buyers) (at s.deals.buyers) (amount s) (amount_in l) (contracts s) a (λ i k. refl)
        (λ i k. sym (t.amounts i k)))
        (keyed_eq (at s.sellers) (at s.sellers) (amount s) (amount_in l) (contracts s) a (λ i k. refl)
        (λ i k. sym (t.amounts i k)))

    ours_line : (a : ℕ) → a < agents s → LineFollows s (bolsa_price s) l a
    unfolding bought sold money
    ours_line a h =
        let o = own_told s l t.figures a h in
        let c = contracted_told s l t.figures a h in
        record {
          own = o ∙ own_is a h;
          import = import_told s l t.figures a h;
          contracted = c ∙ held_is a;
          bought = bought_told s l t.figures a h ∙ rw (o, c);
          sold = sold_told s l t.figures a h ∙ rw (o, c);
          money =
              t.money a h ∙ ap₂ (λ (x y : ℕ). money_of x y (bolsa_price s)) (sym (sold_told s l t.figures a h))
              (sym (bought_told s l t.figures a h));
        }

    -- OUR OWN SETTLEMENT MEETS THE FIVE POINTS
    pub ours_hold : Holds s (bolsa_price s) l
    ours_hold =
        record {
          shares = ours_shares;
          schedule = ours_schedule;
          price = ours_price;
          amounts = ours_amounts;
          lines = ours_line;
        }
