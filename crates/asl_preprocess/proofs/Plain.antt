-- Lines that ask for no file, since their first word begins otherwise.
use Rattle.std.proofs.Common.{◌≡◌, ℕ, suc, ◌+◌, Bool, true, false, cond, List, [], ◌∷◌, ◌++◌, None, take, drop, refl, sym, ap, subst, ◌∙◌, arith}
use Rattle.std.specs.Prelude.{◌==◌, ◌||◌, ◌&&◌, not, codes, if◌then◌else◌}
use Rattle.std.specs.List.{prefix_len, flat_map}
use Rattle.std.specs.Char.{to_ascii_lowercase, is_ascii_digit}
use Rattle.std.specs.Str.{bytes_eq}
use Rattle.std.proofs.lemmas.Bool.{eqb-true}
use Rattle.asl_fragments.specs.declared.fragment.Fragment.{Fragment}
use Rattle.asl_fragments.specs.declared.fragment.FragmentKind.TheVariants.{Identifier, Number, Quoted, Other}
use Rattle.asl_fragments.specs.Bytes.{begins_identifier, in_identifier, is_blank}
use Rattle.asl_fragments.specs.Fragments.{ends_in_comment, quoted_length, made, fragment_of, fragment_of_slash, fragments, piece_of, blanked, without_comments}
use Rattle.asl_fragments.proofs.FragmentLaws.{fragments_step}
use Rattle.asl_fragments.proofs.Joined.{first_forward}
use Rattle.asl_directives.specs.Words.{is_no_blank, ends_word, blanks_before, past_blanks, behind_word}
use Rattle.asl_directives.specs.Forms.{lower, include_in, include_line, in_brackets}
use Rattle.asl_preprocess.specs.Lines.{may_include, may_begin_include, begins_include, asked_by_line}

-- ---- blanks at the front

past_blank : (b : ℕ) (bs : List ℕ) → is_blank b ≡ true → past_blanks (b ∷ bs) ≡ past_blanks bs
past_blank b bs is =
    ap (λ t. drop (cond (not (not t)) (1 + prefix_len (λ c. not (is_no_blank c)) bs) 0) (b ∷ bs)) is
    ∙ ap (λ n. drop n (b ∷ bs)) (let e : 1 + prefix_len (λ c. not (is_no_blank c)) bs ≡ suc (blanks_before bs) = omega arith in e)

past_other : (b : ℕ) (bs : List ℕ) → is_blank b ≡ false → past_blanks (b ∷ bs) ≡ b ∷ bs
past_other b bs is = ap (λ t. drop (cond (not (not t)) (1 + prefix_len (λ c. not (is_no_blank c)) bs) 0) (b ∷ bs)) is

-- ---- without comments

blank_fragment : (b : ℕ) (bs : List ℕ) (s t : Bool) → (b == 32) ≡ s → (b == 9) ≡ t → (s || t) ≡ true → fragment_of b bs ≡ made Other 1 false
unfolding fragment_of
blank_fragment b bs true t e f h = subst (λ n. fragment_of n bs ≡ made Other 1 false) (sym (eqb-true b 32 e)) refl
blank_fragment b bs false true e f h = subst (λ n. fragment_of n bs ≡ made Other 1 false) (sym (eqb-true b 9 f)) refl
blank_fragment b bs false false e f h = absurd cc

blank_stays : (b : ℕ) (bs : List ℕ) → is_blank b ≡ true → without_comments false (b ∷ bs) ≡ b ∷ without_comments false bs
unfolding without_comments
blank_stays b bs is =
    ap (flat_map blanked) (fragments_step false (b ∷ bs) (omega arith) (first_forward false (b ∷ bs) (omega arith)))
    ∙ ap (λ f. blanked (piece_of f (b ∷ bs)) ++ flat_map blanked (fragments false (drop f.length (b ∷ bs)))) (blank_fragment b bs (b == 32) (b == 9) refl refl is)

record Begins (b : ℕ) (text : List ℕ) : Type 0 where
  behind : List ℕ
  is : text ≡ b ∷ behind

front_is : (b n : ℕ) (bs rest : List ℕ) → Begins b (take (1 + n) (b ∷ bs) ++ rest)
front_is b n bs rest = record { behind = take n bs ++ rest; is = ap (λ k. take k (b ∷ bs) ++ rest) (let e : 1 + n ≡ suc n = omega arith in e) }

other_begins : (b : ℕ) (bs : List ℕ) → (b == 47) ≡ false → Begins b (without_comments false (b ∷ bs))
unfolding without_comments fragment_of
other_begins b bs no_slash =
    subst (Begins b) (sym (ap (flat_map blanked) (fragments_step false (b ∷ bs) (omega arith) (first_forward false (b ∷ bs) (omega arith)))))
    (by (begins_identifier b) (is_ascii_digit b) (b == 34) (b == 47) no_slash)
  where
    by : (i d q s : Bool) → s ≡ false → Begins b ((λ (f : Fragment). blanked (piece_of f (b ∷ bs)) ++ flat_map blanked (fragments false (drop f.length (b ∷ bs))))
        (if i then made Identifier (1 + prefix_len in_identifier bs) false else (if d then made Number (1 + prefix_len in_identifier bs) false else (
        if q then made Quoted (1 + quoted_length false bs) false else (if s then fragment_of_slash bs else made Other 1 false)))))
    by true d q s plain = front_is b (prefix_len in_identifier bs) bs (flat_map blanked (fragments false (drop (1 + prefix_len in_identifier bs) (b ∷ bs))))
    by false true q s plain = front_is b (prefix_len in_identifier bs) bs (flat_map blanked (fragments false (drop (1 + prefix_len in_identifier bs) (b ∷ bs))))
    by false false true s plain = front_is b (quoted_length false bs) bs (flat_map blanked (fragments false (drop (1 + quoted_length false bs) (b ∷ bs))))
    by false false false true plain = absurd cc
    by false false false false plain = record { behind = flat_map blanked (fragments false bs); is = refl }

-- ---- the word at the front

no_word : (b : ℕ) (s : List ℕ) (t : Bool) → (to_ascii_lowercase b == 105) ≡ false → bytes_eq (lower (take (cond t (1 + prefix_len (λ c. not (ends_word c)) s) 0) (b ∷ s))) (codes "include") ≡ false
no_word b s true other =
    ap (λ n. bytes_eq (lower (take n (b ∷ s))) (codes "include")) (let e : 1 + prefix_len (λ c. not (ends_word c)) s ≡ suc (prefix_len (λ c. not (ends_word c)) s) = omega arith in e)
    ∙ ap (λ t. t && bytes_eq (lower (take (prefix_len (λ c. not (ends_word c)) s) s)) (codes "nclude")) other
no_word b s false other = refl

no_include : (b : ℕ) (s : List ℕ) → is_blank b ≡ false → (to_ascii_lowercase b == 105) ≡ false → include_line (b ∷ s) ≡ None
no_include b s blank other = ap include_in (past_other b s blank) ∙ ap (λ t. cond t (in_brackets (behind_word (b ∷ s))) None) (no_word b s (not (ends_word b)) other)

-- ---- a line

split_or : (b : ℕ) → begins_include b ≡ false → ((b == 47) ≡ false) × ((to_ascii_lowercase b == 105) ≡ false)
split_or b h = by (b == 47) (to_ascii_lowercase b == 105) h
  where
    by : (s t : Bool) → (s || t) ≡ false → (s ≡ false) × (t ≡ false)
    by true t e = absurd cc
    by false t e = (refl, e)

pub none_asked : (text : List ℕ) → may_include text ≡ false → include_line (without_comments false text) ≡ None
unfolding without_comments fragments
none_asked [] h = refl
none_asked (b ∷ bs) h = by (is_blank b) refl (none_asked bs)
  where
    by : (t : Bool) → is_blank b ≡ t → (may_include bs ≡ false → include_line (without_comments false bs) ≡ None) → include_line (without_comments false (b ∷ bs)) ≡ None
    by true blank below =
        ap include_line (blank_stays b bs blank) ∙ ap include_in (past_blank b (without_comments false bs) blank)
        ∙ below (ap may_begin_include (sym (past_blank b bs blank)) ∙ h)
    by false blank below =
        let first : begins_include b ≡ false = ap may_begin_include (sym (past_other b bs blank)) ∙ h in
        let apart = split_or b first in
        let other = other_begins b bs apart.0 in
        ap include_line other.is ∙ no_include b other.behind blank apart.1

pub not_asked : (in_comment : Bool) (text : List ℕ) → include_line (without_comments false text) ≡ None → asked_by_line in_comment text ≡ None
not_asked in_comment text none = by (in_comment || ends_in_comment in_comment text)
  where
    by : (t : Bool) → cond t None (include_line (without_comments false text)) ≡ None
    by true = refl
    by false = none
