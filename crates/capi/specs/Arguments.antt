-- What the arguments of the exported functions mean.
use Rattle.std.specs.Prelude.{Bool, not, ℕ, eqb}
use Rattle.model.specs.declared.Event.{Event}

-- of `damaged`, `data1` and `acknowledged` 0 is no, anything else yes
abbrev pub is_yes : ℕ → Bool
is_yes x = not (eqb x 0)

abbrev pub event_of : ℕ → ℕ → ℕ → ℕ → ℕ → ℕ → ℕ → Event
event_of code pins address endpoint damaged data1 acknowledged =
    record {
      code = code;
      pins = pins;
      address = address;
      endpoint = record { 0 = endpoint };
      damaged = is_yes damaged;
      data1 = is_yes data1;
      acknowledged = is_yes acknowledged;
    }
