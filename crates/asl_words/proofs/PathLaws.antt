-- The words of a path, one by one.
use Rattle.std.specs.declared.alloc.AllocError.{AllocError}
use Rattle.std.proofs.Common.{Result, Ok, Err, IfOk, ◌≡◌, ℕ, zero, suc, ◌+◌, ◌-◌, ◌<◌, ◌≤◌, length, take, drop, position, arith, List, [], ◌∷◌, refl, ap, ◌∙◌, sym, Option, Some, None, Bool, true, false, not, if◌then◌else◌}
use Rattle.std.specs.Prelude.{cond}
use Rattle.std.specs.List.{position_or_len}
use Rattle.std.proofs.lemmas.Grind.{common_steps}
use Rattle.std.proofs.lemmas.List.Sums.{prefix_len-le-length}
use Rattle.std.proofs.lemmas.List.{take_all, length-drop}
use Rattle.acpi_state.specs.Outcomes.{choose}
use Rattle.acpi_values.specs.Paths.{NameSeg}
use Rattle.asl_words.specs.Paths.{is_dot, with_first, words_of, segment_of, one_segment, behind_segment, segments_of, segments_in, rest_segments, is_no_caret}

within : (text : List ℕ) → position_or_len is_dot text ≤ length text
within text = prefix_len-le-length _ text

found : (text : List ℕ) (n : ℕ) → position is_dot text ≡ Some n → n ≡ position_or_len is_dot text
found text n h = grind (arith, common_steps)

inside : (text : List ℕ) (n : ℕ) → position is_dot text ≡ Some n → n < length text
inside text n h = grind (arith, common_steps)

missing : (text : List ℕ) → position is_dot text ≡ None → position_or_len is_dot text ≡ length text
missing text h = let le : position_or_len is_dot text ≤ length text = within text in grind (arith, common_steps)

one_word : (text : List ℕ) → position_or_len is_dot text ≡ length text → words_of text ≡ text ∷ []
one_word [] e = refl
one_word (b ∷ bytes) e = by_byte (is_dot b) (λ h. one_word bytes h) e
  where
    by_byte : (c : Bool) → (position_or_len is_dot bytes ≡ length bytes → words_of bytes ≡ bytes ∷ []) → cond (not c) (1 + position_or_len is_dot bytes) 0 ≡ suc (length bytes) → (if c then [] ∷ words_of bytes else with_first b (words_of bytes)) ≡ (b ∷ bytes) ∷ []
    by_byte true others e = absurd (omega (arith, e))
    by_byte false others e = ap (with_first b) (others (omega (arith, e)))

more_words : (text : List ℕ) (n : ℕ) → n ≡ position_or_len is_dot text → n < length text → words_of text ≡ take n text ∷ words_of (drop (n + 1) text)
more_words [] n e lt = absurd (omega (arith, lt))
more_words (b ∷ bytes) n e lt = by_byte (is_dot b) (λ h. more_words bytes (position_or_len is_dot bytes) refl h) e
  where
    by_byte : (c : Bool) → (position_or_len is_dot bytes < length bytes → words_of bytes ≡ take (position_or_len is_dot bytes) bytes ∷ words_of (drop (position_or_len is_dot bytes + 1) bytes)) → n ≡ cond (not c) (1 + position_or_len is_dot bytes) 0 → (if c then [] ∷ words_of bytes else with_first b (words_of bytes)) ≡ take n (b ∷ bytes) ∷ words_of (drop (n + 1) (b ∷ bytes))
    by_byte true others e = ap (λ k. take k (b ∷ bytes) ∷ words_of (drop (k + 1) (b ∷ bytes))) (sym e)
    by_byte false others e =
        let m : ℕ = position_or_len is_dot bytes in
        let first : suc m ≡ n = omega (arith, e) in
        let second : suc (m + 1) ≡ n + 1 = omega (arith, e) in
        ap (with_first b) (others (omega (arith, e, lt)))
        ∙ ap (λ k. take k (b ∷ bytes) ∷ words_of (drop (m + 1) bytes)) first
        ∙ ap (λ k. take n (b ∷ bytes) ∷ words_of (drop k (b ∷ bytes))) second

no_room : (words : List (List ℕ)) (text : List ℕ) → words ≡ words_of text → segments_of words 0 ≡ None
no_room [] [] e = absurd (cc)
no_room [] (b ∷ bytes) e = by_byte (is_dot b) (words_of bytes) e
  where
    by_byte : (c : Bool) (ws : List (List ℕ)) → [] ≡ (if c then [] ∷ ws else with_first b ws) → segments_of [] 0 ≡ None
    by_byte true ws e = absurd (cc)
    by_byte false [] e = absurd (cc)
    by_byte false (w ∷ ws) e = absurd (cc)
no_room (word ∷ words) text e = refl

pub segments_zero : (most : ℕ) (text : List ℕ) → most ≡ 0 → segments_in most text ≡ None
unfolding segments_in
segments_zero most text e = ap (segments_of (words_of text)) e ∙ no_room (words_of text) text refl

pub segments_last : (most : ℕ) (text : List ℕ) → (most ≡ 0 → ⊥) → position is_dot text ≡ None → segments_in most text ≡ one_segment text
unfolding segments_in
segments_last zero text h e = absurd (h refl)
segments_last (suc n) text h e = ap (λ ws. segments_of ws (suc n)) (one_word text (missing text e))

pub segments_wrong : (most : ℕ) (text : List ℕ) (n : ℕ) → (most ≡ 0 → ⊥) → position is_dot text ≡ Some n → segment_of (take n text) ≡ None → segments_in most text ≡ None
unfolding segments_in
segments_wrong zero text n h e f = absurd (h refl)
segments_wrong (suc m) text n h e f =
    ap (λ ws. segments_of ws (suc m)) (more_words text n (found text n e) (inside text n e))
    ∙ ap (λ o. choose o None (λ s. behind_segment s (segments_of (words_of (drop (n + 1) text)) m))) f

pub segments_more : (most : ℕ) (text : List ℕ) (n : ℕ) (segment : NameSeg) → (most ≡ 0 → ⊥) → position is_dot text ≡ Some n → segment_of (take n text) ≡ Some segment → segments_in most text ≡ behind_segment segment (segments_in (most - 1) (drop (n + 1) text))
unfolding segments_in
segments_more zero text n segment h e f = absurd (h refl)
segments_more (suc m) text n segment h e f =
    ap (λ ws. segments_of ws (suc m)) (more_words text n (found text n e) (inside text n e))
    ∙ ap (λ o. choose o None (λ s. behind_segment s (segments_of (words_of (drop (n + 1) text)) m))) f
    ∙ ap (λ k. behind_segment segment (segments_of (words_of (drop (n + 1) text)) k)) (omega arith)

pub dot_inside : (text : List ℕ) (n : ℕ) → position is_dot text ≡ Some n → n < length text
dot_inside text n e = inside text n e

pub ruleset segment_rules = (segments_zero, segments_last, segments_wrong, segments_more, dot_inside)

pub rest_nothing : (text : List ℕ) → text ≡ [] → rest_segments text ≡ Some []
rest_nothing text e = ap rest_segments e

pub rest_some : (text : List ℕ) (b : ℕ) (bytes : List ℕ) → text ≡ b ∷ bytes → rest_segments text ≡ segments_in 255 text
rest_some text b bytes e = ap rest_segments e ∙ ap (segments_in 255) (sym e)

pub ruleset rest_rules = (rest_nothing, rest_some)

pub caret_found : (text : List ℕ) (n : ℕ) → position is_no_caret text ≡ Some n → n ≡ position_or_len is_no_caret text
caret_found text n h = grind (arith, common_steps)

pub caret_within : (text : List ℕ) → position_or_len is_no_caret text ≤ length text
caret_within text = prefix_len-le-length _ text

pub caret_missing : (text : List ℕ) → position is_no_caret text ≡ None → length text ≡ position_or_len is_no_caret text
caret_missing text h = let le : position_or_len is_no_caret text ≤ length text = caret_within text in grind (arith, common_steps)

pub ruleset caret_rules = (caret_found, caret_within, caret_missing)

pub more_result : (most : ℕ) (text : List ℕ) (n : ℕ) (segment : NameSeg) (others : Option (List NameSeg)) (r : Result (Option (List NameSeg)) AllocError)
    → (most ≡ 0 → ⊥) → Some n ≡ position is_dot text → Some segment ≡ segment_of (take n text) → others ≡ segments_in (most - 1) (take (length text - (n + 1)) (drop (n + 1) text))
    → IfOk r (λ s. s ≡ behind_segment segment others) → IfOk r (λ s. s ≡ segments_in most text)
more_result most text n segment others (Ok s) h e f o g = g ∙ ap (behind_segment segment) (o ∙ ap (segments_in (most - 1)) (take_all (length text - (n + 1)) (drop (n + 1) text) (omega (arith, length-drop (n + 1) text)))) ∙ sym (segments_more most text n segment h (sym e) (sym f))
more_result most text n segment others (Err x) h e f o g = g
