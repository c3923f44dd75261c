-- An agent's line is its cells more. Assumes nothing.
use Prim.Native.Nat.{ℕ, zero, suc, ◌+◌, ◌-◌, ◌*◌, ◌/◌, ◌%◌, ◌≤◌, ◌<◌}
use native.Mathlib.Omega.{arith}
use native.Mathlib.Decide.{dec_lt}
use borrow.Rule.Slice.PartMut.{put_mid}
use mathlib.Core.List.{List, [], ◌∷◌, ◌++◌}
use mathlib.Core.Path.{◌≡◌, refl, ap, ◌∙◌}
use lib.ListN.{length, take, drop, length-append, length-drop, get_or-append}
use lib.Seq.{paste, get_or-take, get_or-drop, get_or-append-add, length-take-le}
use Rattle.std.proofs.lemmas.Slice.{put_mid-paste}
use Rattle.sums.specs.Lists.{at, Filled}
use Rattle.hour.specs.Lines.{cells_per_agent, cell_of}

module _ (f₀ f₁ f₂ f₃ f₄ f₅ : ℕ → ℕ) (before : List ℕ) (a : ℕ)
    (room : cells_per_agent * a + cells_per_agent ≤ length before) where
  abbrev cells : ℕ → ℕ
  cells k = cell_of f₀ f₁ f₂ f₃ f₄ f₅ (k % cells_per_agent) (k / cells_per_agent)

  abbrev line : List ℕ
  line = f₀ a ∷ f₁ a ∷ f₂ a ∷ f₃ a ∷ f₄ a ∷ f₅ a ∷ []

  -- cell c of agent a
  line_at : (c : ℕ) → c < cells_per_agent → at line c ≡ cell_of f₀ f₁ f₂ f₃ f₄ f₅ c a
  unfolding cell_of
  line_at zero h = refl
  line_at (suc zero) h = refl
  line_at (suc (suc zero)) h = refl
  line_at (suc (suc (suc zero))) h = refl
  line_at (suc (suc (suc (suc zero)))) h = refl
  line_at (suc (suc (suc (suc (suc zero))))) h = refl
  line_at (suc (suc (suc (suc (suc (suc c)))))) h = absurd (omega arith)

  -- the lines of a agents, and that of agent a in its k cells
  module _ (l : List ℕ) (k : ℕ) (size : k ≡ cells_per_agent) (r : Filled 0 before l (cells_per_agent * a) cells) where
    front : length (take (cells_per_agent * a) l) ≡ cells_per_agent * a
    front = length-take-le (cells_per_agent * a) l (omega (arith, r.long))

    abbrev new : List ℕ
    new = put_mid (cells_per_agent * a) k l line

    -- what stands where behind the lines of a agents
    behind : (u : ℕ) → cells_per_agent * a ≤ u → at new u ≡ at (line ++ drop k (drop (cells_per_agent * a) l)) (u - cells_per_agent * a)
    behind u h =
        let e : u ≡ length (take (cells_per_agent * a) l) + (u - cells_per_agent * a) = omega (arith, front) in
        ap (at new) e ∙ get_or-append-add (take (cells_per_agent * a) l) _ (u - cells_per_agent * a) 0

    pub line_more : Filled 0 before (put_mid (cells_per_agent * a) k l line) (cells_per_agent * (a + 1)) cells
    line_more =
        record {
          done = λ u h. go u h (dec_lt u (cells_per_agent * a));
          kept = λ u h. rest u h ∙ r.kept u (omega arith);
          long = rw (length-append, length-append, length-drop, length-drop) (omega (arith, front, r.long));
        }
      where
        rest : (u : ℕ) → cells_per_agent * (a + 1) ≤ u → at new u ≡ at l u
        rest u h =
            let e : u - cells_per_agent * a ≡ cells_per_agent + (u - cells_per_agent * (a + 1)) = omega arith in
            let z : cells_per_agent * a + (k + (u - cells_per_agent * (a + 1))) ≡ u = omega (arith, size) in
            behind u (omega arith) ∙ ap (at (line ++ drop k (drop (cells_per_agent * a) l))) e
            ∙ get_or-append-add line _ (u - cells_per_agent * (a + 1)) 0
            ∙ get_or-drop k (drop (cells_per_agent * a) l) (u - cells_per_agent * (a + 1)) 0
            ∙ get_or-drop (cells_per_agent * a) l (k + (u - cells_per_agent * (a + 1))) 0 ∙ ap (at l) z

        go : (u : ℕ) → u < cells_per_agent * (a + 1) → Dec (u < cells_per_agent * a) → at new u ≡ cells u
        go u h (yes m) =
            get_or-append (take (cells_per_agent * a) l) _ 0 u (omega (arith, front))
            ∙ get_or-take (cells_per_agent * a) l u 0 m ∙ r.done u m
        go u h (no m) =
            let q : u % cells_per_agent ≡ u - cells_per_agent * a = omega arith in
            let d : u / cells_per_agent ≡ a = omega arith in
            behind u (omega arith) ∙ get_or-append line _ 0 (u - cells_per_agent * a) (omega arith)
            ∙ rw (q, d) (line_at (u - cells_per_agent * a) (omega arith))

  -- the same of the line put over its cells
  pub line_pasted : (l : List ℕ) → Filled 0 before l (cells_per_agent * a) cells
      → Filled 0 before (paste l (cells_per_agent * a) line cells_per_agent) (cells_per_agent * (a + 1)) cells
  line_pasted l r =
      rw (put_mid-paste (cells_per_agent * a) cells_per_agent l line line cells_per_agent refl refl refl)
      at (line_more l cells_per_agent refl r)
