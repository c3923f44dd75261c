-- Equal parts of a list: what a part holds cell by cell, what stands where a part came back changed, and what is left of the others.
-- Assumes nothing.
use Prim.Native.Nat.{ℕ, ◌+◌, ◌-◌, ◌*◌, ◌≤◌, ◌<◌, min}
use native.Mathlib.Nat.{mul-le-mul_left}
use native.Mathlib.Omega.{arith}
use mathlib.Core.List.{List, ◌++◌}
use mathlib.Core.Path.{◌≡◌, refl, ◌∙◌, ap, sym}
use lib.ListN.{length, get_or, take, drop, length-append, length-take, length-drop, get_or-append}
use lib.Seq.{ext_get_or, get_or-take, get_or-drop, get_or-append-add}
use Rattle.day.specs.Day.{part, KeptFrom}
use Rattle.day.specs.Steps.{OnlyPart}

module _ {A : Type 0} (d : A) where
  part_cut : (w h : ℕ) (l : List A) → length (part w l h) ≡ min w (length l - w * h)
  unfolding part
  part_cut w h l = simp (length-take, length-drop)

  pub part_long : (w h : ℕ) (l : List A) → w * h + w ≤ length l → length (part w l h) ≡ w
  part_long w h l m = omega (arith, part_cut w h l)

  pub part_at : (w h : ℕ) (l : List A) (k : ℕ) → k < w → get_or (part w l h) k d ≡ get_or l (w * h + k) d
  unfolding part
  part_at w h l k m = get_or-take w (drop (w * h) l) k d m ∙ get_or-drop (w * h) l k d

  -- two lists have one part, if they are equally long and agree on its cells
  pub part_eq : (w h : ℕ) (l m : List A)
      → length m ≡ length l
      → ((k : ℕ) → k < w → get_or m (w * h + k) d ≡ get_or l (w * h + k) d)
      → part w m h ≡ part w l h
  part_eq w h l m e same =
      ext_get_or d _ _ (part_cut w h m ∙ ap (λ (n : ℕ). min w (n - w * h)) e ∙ sym (part_cut w h l))
      (λ k b. let q : k < w = omega (arith, part_cut w h m) in part_at w h m k q ∙ same k q ∙ sym (part_at w h l k q))

  -- ---- the whole, when the part of w cells from a on comes back as ys
  module _ (l ys : List A) (a w : ℕ) (fits : a + w ≤ length l) (long : length ys ≡ w) where
    abbrev back : List A
    back = take a l ++ (ys ++ drop w (drop a l))

    front : length (take a l) ≡ a
    front = simp length-take (omega arith)

    back_long : length back ≡ length l
    back_long = simp (length-append, length-take, length-drop) (omega arith)

    shift : (r : List A) (j : ℕ) → get_or (take a l ++ r) (a + j) d ≡ get_or r j d
    shift r j = ap (λ (n : ℕ). get_or (take a l ++ r) (n + j) d) (sym front) ∙ get_or-append-add (take a l) r j d

    back_before : (i : ℕ) → i < a → get_or back i d ≡ get_or l i d
    back_before i h =
        get_or-append (take a l) (ys ++ drop w (drop a l)) d i (omega (arith, front)) ∙ get_or-take a l i d h

    back_here : (j : ℕ) → j < w → get_or back (a + j) d ≡ get_or ys j d
    back_here j h = shift (ys ++ drop w (drop a l)) j ∙ get_or-append ys (drop w (drop a l)) d j (omega arith)

    past : (k : ℕ) → get_or back (a + (w + k)) d ≡ get_or l (a + (w + k)) d
    past k =
        shift (ys ++ drop w (drop a l)) (w + k)
        ∙ ap (λ (n : ℕ). get_or (ys ++ drop w (drop a l)) (n + k) d) (sym long)
        ∙ get_or-append-add ys (drop w (drop a l)) k d
        ∙ get_or-drop w (drop a l) k d
        ∙ get_or-drop a l (w + k) d

    back_after : (i : ℕ) → a + w ≤ i → get_or back i d ≡ get_or l i d
    back_after i h = let e : i ≡ a + (w + (i - a - w)) = omega arith in rw e (past (i - a - w))

  -- ---- hour h's part came back: it holds what came, and nothing else changed
  module _ (w h : ℕ) (l ys : List A) (fits : w * h + w ≤ length l) (long : length ys ≡ w) where
    pub part_back : part w (back l ys (w * h) w fits long) h ≡ ys
    part_back =
        let n = part_long w h (back l ys (w * h) w fits long) (omega (arith, back_long l ys (w * h) w fits long)) in
        ext_get_or d _ _ (n ∙ sym long)
        (λ k m. part_at w h _ k (omega arith) ∙ back_here l ys (w * h) w fits long k (omega arith))

    pub only_back : OnlyPart d w h l (back l ys (w * h) w fits long)
    only_back =
        record {
          long = back_long l ys (w * h) w fits long;
          ahead = back_before l ys (w * h) w fits long;
          behind = back_after l ys (w * h) w fits long;
        }

  -- ---- where only hour h's part changed, all other parts are as they were
  pub part_other : (w h i : ℕ) (l m : List A) → i < h → OnlyPart d w h l m → part w m i ≡ part w l i
  part_other w h i l m b o =
      let s : w * (i + 1) ≤ w * h = mul-le-mul_left w (omega arith) in
      part_eq w i l m o.long (λ k q. o.ahead (w * i + k) (omega arith))

  -- ---- hours that were not yet reached
  pub part_kept : (w h : ℕ) (l m : List A) → KeptFrom d (w * h) l m → part w m h ≡ part w l h
  part_kept w h l m r = part_eq w h l m r.long (λ k q. r.same (w * h + k) (omega arith))

  pub kept_none : (n : ℕ) (l : List A) → KeptFrom d n l l
  kept_none n l = record { long = refl; same = λ k h. refl }

  pub kept_next : (w h : ℕ) (l m n : List A)
      → KeptFrom d (w * h) l m
      → OnlyPart d w h m n
      → KeptFrom d (w * (h + 1)) l n
  kept_next w h l m n r o =
      record {
        long = o.long ∙ r.long;
        same = λ k q. o.behind k (omega arith) ∙ r.same k (omega arith);
      }

  -- a list that keeps all cells is the same
  pub kept_all : (l m : List A) → KeptFrom d 0 l m → m ≡ l
  kept_all l m r = ext_get_or d m l r.long (λ k q. r.same k (omega arith))
