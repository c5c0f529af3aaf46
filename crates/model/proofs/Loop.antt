-- The law of the byte loop of a transfer, for the SPI side of any chip: what is left of the input decides what is left of the
-- reply. Until byte i the loop has made the state c and stands at register r; it started at byte k with c₀ and r₀.
use mathlib.Core.Path.{◌≡◌, refl, sym, ap, ◌∙◌}
use mathlib.Core.Bool.{Bool}
use mathlib.Core.List.{List, [], ◌∷◌, ◌++◌, append_assoc, append-nil}
use Prim.Native.Nat.{ℕ, suc, ◌+◌, ◌≤◌, ◌<◌}
use native.Mathlib.Numerals.{add-one}
use native.Mathlib.Omega.{arith}
use lib.ListN.{length, get_or, set, take, drop, length-set, take-append-drop}
use lib.Seq.{drop-cons, take-suc-set, drop-set-lt, drop-drop, drop-length}
use Rattle.model.specs.Spi.{Spi, byte_to, byte_of, burst_to, burst_of}

pub record Turn {R : Type 0} (f : Spi R) (w : Bool) (xs ys₀ : List ℕ) (k : ℕ) (c₀ : R) (r₀ : ℕ) (ys : List ℕ) (c : R)
    (r i : ℕ) : Type 0 where
  pub within : i ≤ length xs
  pub sized : length ys ≡ length ys₀
  pub state : burst_to f c w r (drop i xs) ≡ burst_to f c₀ w r₀ (drop k xs)
  pub done : take i ys ++ burst_of f c w r (drop i xs) ≡ take k ys₀ ++ burst_of f c₀ w r₀ (drop k xs)
  pub rest : drop i ys ≡ drop i ys₀

module _ {R : Type 0} (f : Spi R) where
  pub start : (w : Bool) (xs ys : List ℕ) (k : ℕ) (c : R) (r : ℕ) → k ≤ length xs → Turn f w xs ys k c r ys c r k
  start w xs ys k c r h = record { within = omega arith; sized = refl; state = refl; done = refl; rest = refl }

  pub turn : (w : Bool) (xs ys₀ : List ℕ) (k : ℕ) (c₀ : R) (r₀ : ℕ) (ys : List ℕ) (c : R) (r i : ℕ) → Turn f w xs ys₀ k c₀ r₀ ys c r i
      → i < length xs
      → length xs ≤ length ys₀ → Turn f w xs ys₀ k c₀ r₀ (set ys i (byte_of f c w r)) (byte_to f c w r (get_or xs i 0)) (f.step r) (i + 1)
  unfolding burst_to burst_of
  turn w xs ys₀ k c₀ r₀ ys c r i t h room =
      let in_ys : i < length ys = omega (arith, t.sized) in
      let more : drop i xs ≡ get_or xs i 0 ∷ drop (suc i) xs = drop-cons xs i 0 h in
      record {
        within = omega arith;
        sized = simp length-set t.sized;
        state = rw add-one (rw more at t.state);
        done = rw (add-one, take-suc-set ys i _ in_ys, append_assoc) (rw more at t.done);
        rest = rw (drop-set-lt (i + 1) ys i _ (omega arith), ← drop-drop 1 i ys, ← drop-drop 1 i ys₀, t.rest);
      }

  pub finish : (w : Bool) (xs ys₀ : List ℕ) (k : ℕ) (c₀ : R) (r₀ : ℕ) (ys : List ℕ) (c : R) (r i : ℕ) → Turn f w xs ys₀ k c₀ r₀ ys c r i
      → length xs ≤ i → (c ≡ burst_to f c₀ w r₀ (drop k xs)) × (ys ≡ take k ys₀ ++ burst_of f c₀ w r₀ (drop k xs) ++ drop (length xs) ys₀)
  unfolding burst_to burst_of
  finish w xs ys₀ k c₀ r₀ ys c r i t h =
      let e : i ≡ length xs = omega (arith, t.within) in
      let none : drop i xs ≡ [] = rw e (drop-length xs) in
      (rw none at t.state, sym (take-append-drop i ys) ∙ cc (rw (none, append-nil) at t.done, t.rest, e))

  -- a burst's reply has a byte for each data byte
  pub burst_length : (w : Bool) (bs : List ℕ) (c : R) (r : ℕ) → length (burst_of f c w r bs) ≡ length bs
  unfolding burst_of
  burst_length w [] c r = refl
  burst_length w (b ∷ bs) c r = ap suc (burst_length w bs (byte_to f c w r b) (f.step r))
