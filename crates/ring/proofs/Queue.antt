-- The packets of k buffers from a place on: how many, one more at the end, which changes leave them.
-- Any number n of buffers.
use mathlib.Core.Path.{◌≡◌, refl, sym, ap, ap₂, ◌∙◌}
use mathlib.Core.List.{List, [], ◌∷◌, ◌++◌}
use Prim.Native.Nat.{ℕ, zero, suc, ◌+◌, ◌%◌, ◌<◌}
use native.Mathlib.Nat.{add-zero, add-suc, suc-add}
use native.Mathlib.Omega.{arith}
use lib.ListN.{length, get_or}
use Rattle.ring.specs.Ring.{packet, packets}
use Rattle.ring.proofs.Places.{mod_suc}

module _ (n : ℕ) where
  pub packets_length : (s cs : List ℕ) (i k : ℕ) → length (packets n s cs i k) ≡ k
  packets_length s cs i zero = refl
  packets_length s cs i (suc k) = ap suc (packets_length s cs (suc i) k)

  -- only the buffer counts, not how often the place went round
  pub packets_round : (s cs : List ℕ) (k i j : ℕ) → i % n ≡ j % n → packets n s cs i k ≡ packets n s cs j k
  packets_round s cs zero i j e = refl
  packets_round s cs (suc k) i j e =
      ap₂ (λ (x : ℕ) (rest : List (List ℕ)). packet s x (get_or cs x 0) ∷ rest) e (packets_round s cs k (suc i) (suc j) (mod_suc n i j e))

  -- one more at the end
  pub packets_more : (s cs : List ℕ) (k i : ℕ)
      → packets n s cs i (suc k) ≡ packets n s cs i k ++ (packet s ((i + k) % n) (get_or cs ((i + k) % n) 0) ∷ [])
  packets_more s cs zero i = ap (λ (x : ℕ). packet s (x % n) (get_or cs (x % n) 0) ∷ []) (sym (add-zero i))
  packets_more s cs (suc k) i =
      ap (λ (rest : List (List ℕ)). packet s (i % n) (get_or cs (i % n) 0) ∷ rest)
      (packets_more s cs k (suc i)
      ∙ ap (λ (x : ℕ). packets n s cs (suc i) k ++ (packet s (x % n) (get_or cs (x % n) 0) ∷ [])) (suc-add i k ∙ sym (add-suc i k)))

  -- where each buffer's packet is the same, all are
  pub packets_same : (s cs s' cs' : List ℕ) (k i : ℕ)
      → ((j : ℕ) → j < k → packet s ((i + j) % n) (get_or cs ((i + j) % n) 0) ≡ packet s' ((i + j) % n) (get_or cs' ((i + j) % n) 0))
      → packets n s cs i k ≡ packets n s' cs' i k
  packets_same s cs s' cs' zero i h = refl
  packets_same s cs s' cs' (suc k) i h =
      ap₂ (λ (p : List ℕ) (rest : List (List ℕ)). p ∷ rest) (rw add-zero at (h 0 (omega arith)))
      (packets_same s cs s' cs' k (suc i) (λ j l. rw (suc-add, ← (add-suc i j)) (h (suc j) (omega arith))))
