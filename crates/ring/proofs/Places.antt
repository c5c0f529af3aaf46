-- Places of a ring of n buffers, counted round: two at a distance below n are two buffers.
use mathlib.Core.Path.{◌≡◌, sym, ap, ◌∙◌}
use mathlib.Core.Logic.{◌≢◌}
use Prim.Native.Nat.{ℕ, suc, ◌+◌, ◌-◌, ◌%◌, ◌≤◌, ◌<◌}
use native.Mathlib.Nat.{mod-lt, mod-add-mod, mod-eq_of_lt, mod-eq-sub-mod}
use native.Mathlib.Decide.{dec_lt}
use native.Mathlib.Omega.{arith}

-- one place further, from the same buffer
pub mod_suc : (n i j : ℕ) → i % n ≡ j % n → suc i % n ≡ suc j % n
mod_suc n i j e =
    let step : (k : ℕ) → suc k % n ≡ (k % n + 1) % n = λ k. ap (λ (x : ℕ). x % n) (omega arith) ∙ sym (mod-add-mod k n 1) in
    step i ∙ ap (λ (x : ℕ). (x + 1) % n) e ∙ sym (step j)

-- d places further round, 0 < d < n, is another buffer
mod_moves : (n r d : ℕ) → r < n → 0 < d → d < n → (r + d) % n ≢ r
mod_moves n r d h p l e =
    elim (dec_lt (r + d) n) [
      | yes s ↦ omega (arith, mod-eq_of_lt s)
      | no g ↦
          let back : r + d - n < n = omega arith in
          let over : n ≤ r + d = omega arith in
          omega (arith, mod-eq-sub-mod over, mod-eq_of_lt back)
    ]

pub places_apart : (n i j k : ℕ) → j < k → k < n → (i + j) % n ≢ (i + k) % n
places_apart n i j k h l e =
    let moved : ((i + j) % n + (k - j)) % n ≡ (i + j) % n = mod-add-mod (i + j) n (k - j) ∙ ap (λ (x : ℕ). x % n) (omega arith) ∙ sym e in
    mod_moves n ((i + j) % n) (k - j) (mod-lt (i + j) (omega arith)) (omega arith) (omega arith) moved
