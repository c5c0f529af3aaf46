-- A lesson that is being recorded keeps within what a lesson may have (document 02, Ask 5).
use Rattle.std.specs.Prelude.{ℕ, ◌+◌, ◌*◌, ◌≤◌}

-- at most 255 entries, and a file of at most 64 KiB: so many entries, and so many bytes of bodies
pub record Fits (entries bytes : ℕ) : Type 0 where
  pub count : entries ≤ 255
  pub size : 2 + 11 * entries + bytes ≤ 65536
