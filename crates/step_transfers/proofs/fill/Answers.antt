-- The burst on endpoint 0 is the transfer's, which a sound record does not refuse.
use mathlib.Core.Path.{◌≡◌, refl, sym, ap, ◌∙◌}
use mathlib.Core.Bool.{true}
use mathlib.Core.List.{◌∷◌}
use Prim.Native.Nat.{ℕ, ◌-◌}
use native.Mathlib.Omega.{arith}
use lib.ListN.{length, take}
use lib.Seq.{length-take-le}
use Rattle.model.specs.Spi.{burst_to}
use Rattle.rules.specs.Spi.{max3420e_spi}
use Rattle.step_transfers.proofs.Sends.{sends_to}
use Rattle.step_transfers.proofs.fill.Goals as goal

pub returns : goal.returns
returns c =
    let a = c.args in
    let whole : a.n - 0 ≡ a.n = omega arith in
    let long : length (take a.n a.bytes.now) ≡ a.n = length-take-le _ _ (omega (arith, c.requires)) in
    c.write_ep0-endpoint.ensures a.chip refl
    ∙ ap (λ (k : ℕ). burst_to max3420e_spi a.chip true 0 (take k a.bytes.now)) whole
    ∙ sym (sends_to a.chip c.requires.0 (0x02 ∷ take a.n a.bytes.now) (omega arith) (omega (arith, c.requires)))
