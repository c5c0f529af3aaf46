-- The time between two ticks (document 02, Ask 5): ticks count modulo 2 to the 32.
use Rattle.std.specs.Prelude.{ℕ, ◌+◌, ◌-◌, ◌%◌, ◌^◌}

abbrev pub elapsed_ticks : ℕ → ℕ → ℕ
elapsed_ticks start end = (end + (2 ^ 32 - start)) % 2 ^ 32
