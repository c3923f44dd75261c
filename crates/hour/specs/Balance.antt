-- Document 01, 'From readings to commercial demand', with document 02, P5 and P7. Assumes nothing.
use Rattle.std.specs.Prelude.{ℕ, ◌+◌, ◌-◌, ◌*◌, ◌/◌, List, not}
use Rattle.sums.specs.Sums.{sum, pick, keyed}
use Rattle.sums.specs.Lists.{at, list_to}
use Rattle.share.specs.Share.{share_of}
use Rattle.hour.specs.Sheet.{Sheet, agents, boundaries, retails, outside}

-- 1. Referral (1.1.1.2.3) hands on the exact ten-thousandths: a reading times (10,000 + factor)
unfoldable pub referred : (reading factor : ℕ) → ℕ
referred x f = x * (10000 + f)

-- ten-thousandths as whole kWh, half upwards
unfoldable pub rounded : ℕ → ℕ
rounded x = (x + 5000) / 10000

-- imports and exports, in ten-thousandths, summed exactly by agent
unfoldable pub imported : Sheet → ℕ → ℕ
imported s a = keyed (at s.owners) (λ j. referred (at s.imports j) (at s.factors j)) (boundaries s) a

unfoldable pub exported : Sheet → ℕ → ℕ
exported s a = keyed (at s.owners) (λ j. referred (at s.exports j) (at s.factors j)) (boundaries s) a

-- 2. A retailer's consumption is its referred imports less its referred exports, rounded once
unfoldable pub consumption : Sheet → ℕ → ℕ
consumption s a = pick (retails s a) (rounded (imported s a - exported s a))

unfoldable pub consumed : Sheet → ℕ
consumed s = sum (agents s) (consumption s)

-- a generator's import is its own consumption, its export net generation; it has no factor, so both are whole kWh
unfoldable pub own_import : Sheet → ℕ → ℕ
own_import s a = pick (not (retails s a)) (rounded (imported s a))

unfoldable pub delivered : Sheet → ℕ → ℕ
delivered s a = pick (not (retails s a)) (rounded (exported s a))

-- 3. Losses (1.1.1.2.2): all energy entering the national system, generator exports, less all energy leaving it, generator imports and
-- the rounded consumptions
unfoldable pub entering : Sheet → ℕ
entering s = sum (agents s) (delivered s)

unfoldable pub leaving : Sheet → ℕ
leaving s = sum (agents s) (λ a. consumption s a + own_import s a)

unfoldable pub losses : Sheet → ℕ
losses s = entering s - leaving s

-- 4. Losses are shared over retailers in proportion to consumption. Generators carry none: their consumption here is 0
unfoldable pub consumptions : Sheet → List ℕ
consumptions s = list_to (consumption s) (agents s)

unfoldable pub loss_share : Sheet → ℕ → ℕ
loss_share s a = share_of (losses s) (consumptions s) a

-- 5. Commercial demand is consumption plus share
unfoldable pub commercial : Sheet → ℕ → ℕ
commercial s a = consumption s a + loss_share s a

unfoldable pub demands : Sheet → List ℕ
demands s = list_to (commercial s) (agents s)

-- the hour's demand is the sum of commercial demands plus generators' imports
abbrev pub demand_by : Sheet → (commercial : ℕ → ℕ) → ℕ
demand_by s commercial = sum (agents s) (λ a. commercial a + own_import s a)

unfoldable pub hour_demand : Sheet → ℕ
hour_demand s = demand_by s (commercial s)

-- it equals the sum of generator exports: a generator is metered at 220 kV, so these are its readings
unfoldable pub generated : Sheet → ℕ
generated s = sum (boundaries s) (λ j. pick (not (retails s (at s.owners j))) (at s.exports j))

-- ---- P5: small generators outside central dispatch

-- what a small generator delivers is its metered export
unfoldable pub injected : Sheet → ℕ → ℕ
injected s a = pick (outside s a) (delivered s a)

-- small generators' exports, over their boundary rows
unfoldable pub small_exports : Sheet → ℕ
small_exports s = sum (boundaries s) (λ j. pick (outside s (at s.owners j)) (at s.exports j))

-- the schedule sums to the hour's demand less these: it is what central dispatch has to meet
abbrev pub dispatch_demand_by : Sheet → (commercial : ℕ → ℕ) → ℕ
dispatch_demand_by s commercial = demand_by s commercial - small_exports s

unfoldable pub dispatch_demand : Sheet → ℕ
dispatch_demand s = dispatch_demand_by s (commercial s)
