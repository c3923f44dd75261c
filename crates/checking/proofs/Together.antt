-- What the three passes find, put together, is the decision. Assumes nothing.
use Prim.Native.Nat.{ℕ, ◌+◌, ◌-◌, ◌<◌, min}
use native.Mathlib.Omega.{arith}
use mathlib.Core.Bool.{Bool, ◌&&◌, ◌||◌}
use mathlib.Core.Path.{◌≡◌, ap, ap₂, ◌∙◌, sym}
use lib.Dec.{ltb, leb, eqb}
use Rattle.sums.specs.Sums.{pick}
use Rattle.sums.specs.Lists.{total}
use Rattle.sums.proofs.Sums.{sum_add}
use Rattle.deals.specs.Deals.{Deals, count, kind, price, quantity, fixed, conditional, demanded, cheaper_of, group_of}
use Rattle.deals.proofs.Demanded.{group_total}
use Rattle.statement.specs.Follows.{left_by}
use Rattle.statement.specs.Decide.{every, below, fixed_at, taken_at, largest_at, good}
use Rattle.statement.specs.Quick.{reach_of, depth_of, given_all, last_good, first_good, group_good, groups_good, quick}
use Rattle.statement.proofs.Quick.{quick_good}
use Rattle.checking.specs.Passes.{above, SeenTo, SummedTo}
use Rattle.checking.specs.declared.passes.Seen.{Seen}
use Rattle.checking.specs.declared.passes.Summed.{Summed}

module _ (s : Deals) (d : ℕ) (x : ℕ → ℕ) (v : Seen) (h : SeenTo s x (count s) v) (left : ℕ) (el : left ≡ d - v.firm)
  where
    reach_is : v.reach ≡ reach_of s x conditional
    unfolding reach_of
    reach_is = h.reach

    depth_is : v.depth ≡ depth_of above s x
    unfolding depth_of
    depth_is = h.depth

    top_is : v.top ≡ reach_of s x demanded
    unfolding reach_of
    top_is = h.top

    left_is : left ≡ left_by s d x
    unfolding left_by
    left_is = el ∙ ap (λ (z : ℕ). d - z) h.firm

    given_is : v.given ≡ given_all s x
    unfolding given_all
    given_is = h.given

    asked_is : v.asked ≡ given_all s (quantity s)
    unfolding given_all
    asked_is = h.asked

    module _ (u w g : ℕ) (z : Summed) (k : SummedTo s x u w g (count s) z) where
      ahead_is : z.ahead ≡ below s u + taken_at s x u
      unfolding below taken_at
      ahead_is =
          k.ahead
          ∙ sum_add (count s) (λ j. pick (ltb (kind s j) demanded && ltb (price s j) u) (quantity s j))
          (λ j. pick (eqb (kind s j) conditional && eqb (price s j) u) (x j))

      largest_is : z.largest ≡ largest_at s x u
      unfolding largest_at
      largest_is = k.largest

      under_is : z.under ≡ below s w + taken_at s x w + fixed_at s w
      unfolding below taken_at fixed_at
      under_is =
          k.under
          ∙ omega (
            arith,
            sum_add (count s) (λ j. pick (ltb (kind s j) demanded && ltb (price s j) w) (quantity s j)
                + pick (eqb (kind s j) conditional && eqb (price s j) w) (x j))
                (λ j. pick (eqb (kind s j) fixed && eqb (price s j) w) (quantity s j)),
            sum_add (count s) (λ j. pick (ltb (kind s j) demanded && ltb (price s j) w) (quantity s j))
                (λ j. pick (eqb (kind s j) conditional && eqb (price s j) w) (x j)),
          )

      cheaper_is : z.cheaper ≡ cheaper_of s g
      unfolding cheaper_of
      cheaper_is = k.cheaper

      whole_is : z.whole ≡ total (group_of s g)
      whole_is = k.whole ∙ sym (group_total s g)

      module _ (eu : u ≡ v.reach - 1) (ew : w ≡ above - v.depth) (eg : g ≡ v.top - 1) where
        last_is : (eqb v.reach 0 || ltb (z.ahead - z.largest) d) ≡ last_good s d x (reach_of s x conditional)
        unfolding last_good
        last_is =
            let q : u ≡ reach_of s x conditional - 1 = eu ∙ ap (λ (y : ℕ). y - 1) reach_is in
            let p : z.ahead - z.largest ≡ below s (reach_of s x conditional - 1)
            + taken_at s x (reach_of s x conditional - 1) - largest_at s x (reach_of s x conditional - 1) =
            rw (← q) (omega (arith, ahead_is, largest_is)) in
            ap₂ (λ (y : ℕ) (b : Bool). eqb y 0 || b) reach_is (ap (λ (y : ℕ). ltb y d) p)

        first_is : (eqb v.depth 0 || leb d z.under) ≡ first_good above s d x (depth_of above s x)
        unfolding first_good
        first_is =
            let q : w ≡ above - depth_of above s x = ew ∙ ap (λ (y : ℕ). above - y) depth_is in
            let p : z.under ≡ below s (above - depth_of above s x) + taken_at s x (above - depth_of above s x)
            + fixed_at s (above - depth_of above s x) =
            rw (← q) under_is in
            ap₂ (λ (y : ℕ) (b : Bool). eqb y 0 || b) depth_is (ap (λ (y : ℕ). leb d y) p)

        groups_are : (b : Bool)
            → b ≡ every (count s)
            (λ i. group_good (left) v.top z.cheaper z.whole (kind s i) (price s i) (quantity s i) (x i))
            → (b && eqb v.given (min left v.asked)) ≡ groups_good s (left_by s d x) x
        unfolding groups_good
        groups_are b f =
            let q : g ≡ reach_of s x demanded - 1 = eg ∙ ap (λ (y : ℕ). y - 1) top_is in
            let c : z.cheaper ≡ cheaper_of s (reach_of s x demanded - 1) = rw (← q) cheaper_is in
            let t : z.whole ≡ total (group_of s (reach_of s x demanded - 1)) = rw (← q) whole_is in
            ap₂ (λ (y : Bool) (n : Bool). y && n)
            (f
            ∙ ap₂ (λ (y n : ℕ). every (count s)
            (λ i. group_good y n z.cheaper z.whole (kind s i) (price s i) (quantity s i) (x i))) left_is top_is
            ∙ ap₂ (λ (y n : ℕ). every (count s)
            (λ i. group_good (left_by s d x) (reach_of s x demanded) y n (kind s i) (price s i) (quantity s i) (x i))) c t)
            (ap₂ (λ (y n : ℕ). eqb y n) given_is (ap₂ (λ (y n : ℕ). min y n) left_is asked_is))

        pub decided : ((i : ℕ) → i < count s → price s i < above) → (b : Bool)
            → b ≡ every (count s)
            (λ i. group_good left v.top z.cheaper z.whole (kind s i) (price s i) (quantity s i) (x i))
            → (v.good && ((eqb v.reach 0 || ltb (z.ahead - z.largest) d)
            && ((eqb v.depth 0 || leb d z.under) && (b && eqb v.given (min left v.asked))))) ≡ good s d x
        unfolding quick
        decided small b o =
            ap₂ (λ (y t : Bool). y && t) h.good
            (ap₂ (λ (y t : Bool). y && t) last_is (ap₂ (λ (y t : Bool). y && t) first_is (groups_are b o)))
            ∙ quick_good above s d x small
