-- How many bytes of a table are sent, and what the reply buffer then holds (document 01, "The firmware").
use Rattle.std.specs.Prelude.{◌≡◌, List, ◌++◌, ℕ, min, length, take, drop}

-- n is the smaller of wLength and what there is
abbrev pub count : List ℕ → ℕ → ℕ
count table wlength = min wlength (length table)

-- those n bytes are written, and no other
abbrev pub written : List ℕ → ℕ → List ℕ → List ℕ
written table wlength reply = take (count table wlength) table ++ drop (count table wlength) reply

abbrev pub Sent : List ℕ → ℕ → List ℕ → ℕ → List ℕ → Type 0
Sent table wlength reply n after = (n ≡ count table wlength) × (after ≡ written table wlength reply)
