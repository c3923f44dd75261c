-- Laws of a sheet's text that is put into a scratch and then given. Assumes nothing.
use Rattle.std.specs.Prelude.{Ok}
use Prim.Native.Nat.{ℕ, ◌≤◌}
use mathlib.Core.Path.{◌≡◌, subst}
use mathlib.Core.List.{List}
use native.Mathlib.Omega.{arith}
use Rattle.sheet.specs.Reading.{read_of}
use Rattle.sheet.specs.declared.Counts.{Counts}
use Rattle.sheet.proofs.Accepted.{accepted_whole, Few, good_few}
use Rattle.printing.specs.Put.{Put, PutInRoom}

-- another name of the text, and more room than is needed
pub roomier : {text before after : List ℕ} {at m r : ℕ} → PutInRoom text before after at m r → (words : List ℕ) (n : ℕ) → m ≤ n
    → text ≡ words → PutInRoom words before after at n r
roomier {text} {before} {after} {at} {m} {r} h words n l e =
    record {
      put = λ p q.
          let x = h.put (omega (arith, l, p)) q in
          let t : Put text after at n r = record { text_is = x.text_is; low = omega (arith, x.low, l); high = x.high } in
          subst (λ (u : List ℕ). Put u after at n r) e t;
    }

-- an accepted sheet has no more rows than the scratch has room for
pub few_rows_lem : (s : List ℕ) (c : Counts) → read_of s ≡ Ok c → Few c
few_rows_lem s c e = good_few c (accepted_whole s c e).few
