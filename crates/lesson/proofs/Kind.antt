-- A number names a kind exactly when it is 1 or 2.
use Rattle.std.proofs.Common.{◌≡◌, ℕ, true, arith, sym}
use Rattle.std.specs.Prelude.{Result, Ok, Err}
use Rattle.std.specs.Result.{is_ok}
use Rattle.std.proofs.lemmas.Bool.Decides.{nat_tests}
use Rattle.lesson.specs.Lesson.{is_kind}
use Rattle.lesson.specs.Kind.{Names}
use Rattle.lesson.specs.declared.EntryKind.{EntryKind}
use Rattle.lesson.specs.declared.UnknownKind.{UnknownKind}

pub kind_known : (n : ℕ) (r : Result EntryKind UnknownKind) → Names n r → is_ok r ≡ is_kind n
kind_known n (Ok kind) h = sym h.1
kind_known n (Err e) h = sym h.1

pub kind_two : (n : ℕ) → is_kind n ≡ true → (n ≡ 1 → ⊥) → n ≡ 2
kind_two n h other = grind (arith, nat_tests)
