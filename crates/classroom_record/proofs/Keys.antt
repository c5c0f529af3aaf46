-- A key is looked for desk by desk.
use mathlib.Core.Path.{◌≡◌}
use mathlib.Core.Bool.{true, false, ◌&&◌}
use mathlib.Core.List.{List}
use Prim.Native.Nat.{ℕ, suc, ◌<◌}
use lib.Dec.{eqb}
use lib.ListN.{length, get_or, drop}
use lib.Seq.{drop-cons}
use Rattle.classroom_record.specs.declared.Desk.{Desk}
use Rattle.classroom_record.specs.Record.{is_open, key_among}

module _ (l : List Desk) (i : ℕ) (d : Desk) (key : ℕ) (h : i < length l) where
  pub key_found : (is_open (get_or l i d) && eqb (get_or l i d).key key) ≡ true → key_among (drop i l) key ≡ true
  key_found t = rw (drop-cons l i d h, t)

  pub key_passed : (is_open (get_or l i d) && eqb (get_or l i d).key key) ≡ false → key_among (drop i l) key ≡ key_among (drop (suc i) l) key
  key_passed t = rw (drop-cons l i d h, t)
