-- The first word of a line, as it is found.
use Rattle.std.proofs.Common.{◌≡◌, ◌<◌, ◌≤◌, ◌+◌, ◌-◌, ℕ, Bool, List, length, drop, take, arith, Option, sym, ◌∙◌, ap, not}
use Rattle.std.specs.Prelude.{position, Some, None, unwrap_or}
use Rattle.std.specs.List.{position_or_len}
use Rattle.std.proofs.lemmas.List.{take_rest}
use Rattle.std.proofs.lemmas.List.Sums.{prefix_len-le-length}
use Rattle.std.proofs.lemmas.List.Quantifiers.{position-Some}
use Rattle.std.proofs.lemmas.Grind.{common_steps}
use Rattle.words.specs.Words.{is_blank, is_glyph, from_word, first_word, after_word, IsNext}

pub word_starts : (xs : List ℕ) (i : ℕ) → position is_glyph xs ≡ Some i → i < length xs
word_starts xs i h = (position-Some is_glyph xs i 0 h).0

place : (p : ℕ → Bool) (xs : List ℕ) (i : ℕ) → position p xs ≡ Some i → position_or_len p xs ≡ i
place p xs i h = grind (arith, common_steps)

place_or_end : (p : ℕ → Bool) (xs : List ℕ) → unwrap_or (position p xs) (length xs) ≡ position_or_len p xs
place_or_end p xs = let h = prefix_len-le-length (λ x. not (p x)) xs in grind (arith, common_steps)

has_bytes : (xs : List ℕ) (i j : ℕ) → position is_glyph xs ≡ Some i → position is_blank (drop i xs) ≡ Some j → 0 < j
has_bytes xs i j h k =
    let a = position-Some is_glyph xs i 0 h in
    let b = position-Some is_blank (drop i xs) j 0 k in
    grind (arith, common_steps)

has_bytes_or_end : (xs : List ℕ) (i : ℕ) (r : Option ℕ) → position is_glyph xs ≡ Some i → r ≡ position is_blank (drop i xs)
    → 0 < unwrap_or r (length (drop i xs))
has_bytes_or_end xs i None h k = let a = word_starts xs i h in grind (arith, common_steps)
has_bytes_or_end xs i (Some j) h k = has_bytes xs i j h (sym k)

lengths : (ys w rest : List ℕ) (n : ℕ) → w ≡ take n ys → rest ≡ drop n ys → n ≤ length ys → (length w ≡ n) × (length w + length rest ≡ length ys)
lengths ys w rest n a b h = grind (arith, common_steps)

shorter : (xs ys : List ℕ) (i : ℕ) → ys ≡ drop i xs → length ys ≤ length xs
shorter xs ys i f = grind (arith, common_steps)

-- ys is the line from its first glyph on, split at the next blank or at the end
pub next_word_is : (xs ys w rest : List ℕ) (i n : ℕ) (r : Option ℕ) → position is_glyph xs ≡ Some i → ys ≡ take (length xs - i) (drop i xs)
    → r ≡ position is_blank ys → n ≡ unwrap_or r (length ys) → w ≡ take n ys → rest ≡ drop n ys → IsNext xs w rest
unfolding first_word after_word
next_word_is xs ys w rest i n r h y p q a b =
    let f : ys ≡ drop i xs = y ∙ take_rest xs i in
    let g : ys ≡ from_word xs = f ∙ ap (λ k. drop k xs) (sym (place is_glyph xs i h)) in
    let m : n ≡ position_or_len is_blank ys = q ∙ ap (λ o. unwrap_or o (length ys)) p ∙ place_or_end is_blank ys in
    let c = has_bytes_or_end xs i r h (p ∙ ap (λ zs. position is_blank zs) f) in
    let d : 0 < unwrap_or r (length ys) = rw f c in
    let o : 0 < n = rw q d in
    let k = prefix_len-le-length (λ x. not (is_blank x)) ys in
    let t : n ≤ length ys = rw m k in
    let l = lengths ys w rest n a b t in
    let s = shorter xs ys i f in
    record {
      word = a ∙ ap (λ k. take k ys) m ∙ ap (λ zs. take (position_or_len is_blank zs) zs) g;
      left = b ∙ ap (λ k. drop k ys) m ∙ ap (λ zs. drop (position_or_len is_blank zs) zs) g;
      some = rw l.0 o;
      within = rw l.1 s;
    }
