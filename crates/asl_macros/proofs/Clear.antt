-- Where no word of a text has a text of its own, none of its identifiers has.
use Rattle.std.proofs.Common.{◌≡◌, ℕ, zero, suc, ◌+◌, ◌-◌, ◌<◌, ◌≤◌, Bool, true, false, cond, List, [], ◌∷◌, ◌++◌, length, take, drop, slice_index, Option, None, refl, sym, ap, subst, ◌∙◌, arith}
use Rattle.std.specs.Prelude.{◌==◌, ◌&&◌, ◌||◌, not, if◌then◌else◌, ⊤}
use Rattle.std.specs.List.{prefix_len}
use Rattle.std.specs.Char.{is_ascii_digit}
use Rattle.std.proofs.lemmas.Bool.{eqb-true}
use Rattle.asl_fragments.specs.declared.fragment.FragmentKind.{FragmentKind}
use Rattle.asl_fragments.specs.declared.fragment.FragmentKind.TheVariants.{Identifier, Number, Quoted, Comment, Other}
use Rattle.asl_fragments.specs.Bytes.{begins_identifier, in_identifier}
use Rattle.asl_fragments.specs.Fragments.{quoted_length, block_length, block_is_open, made, fragment_of_slash, fragment_of, first_fragment, fragments_behind, fragments, identifiers, identifier_by}
use Rattle.asl_fragments.proofs.Joined.{first_forward}
use Rattle.asl_macros.specs.Table.{AreFree}
use Rattle.asl_macros.specs.Clear.{FirstIsFree, IsClear}

-- ---- where fragments end

-- a fragment may begin at the front of a text that stands behind this byte: no word goes on there
abbrev Bound : ℕ → List ℕ → Type 0
Bound before [] = ⊤
Bound before (b ∷ bs) = (in_identifier before && in_identifier b) ≡ false

-- the same behind so many bytes
abbrev Ends : ℕ → ℕ → List ℕ → Type 0
Ends zero before text = Bound before text
Ends (suc n) before [] = ⊤
Ends (suc n) before (b ∷ bs) = Ends n b bs

and_right : (a b : Bool) → (a && b) ≡ true → b ≡ true
and_right true b e = e
and_right false b e = absurd cc

false_right : (a b : Bool) → b ≡ false → (a && b) ≡ false
false_right true b e = e
false_right false b e = refl

-- behind a byte outside words
outside : (b : ℕ) (bs : List ℕ) → in_identifier b ≡ false → Bound b bs
outside b [] e = tt
outside b (c ∷ cs) e = ap (λ t. t && in_identifier c) e

none_in : (b n : ℕ) → (b == n) ≡ true → in_identifier n ≡ false → in_identifier b ≡ false
none_in b n e h = subst (λ m. in_identifier m ≡ false) (sym (eqb-true b n e)) h

one_more : (n b : ℕ) (bs : List ℕ) (before : ℕ) → Ends n b bs → Ends (1 + n) before (b ∷ bs)
one_more n b bs before h = let e : suc n ≡ 1 + n = omega arith in subst (λ m. Ends m before (b ∷ bs)) e h

one_less : (n before : ℕ) (text : List ℕ) → Ends n before text → Ends (1 + n - 1) before text
one_less n before text h = let e : n ≡ 1 + n - 1 = omega arith in subst (λ m. Ends m before text) e h

all_ends : (before : ℕ) (bs : List ℕ) → Ends (length bs) before bs
all_ends before [] = tt
all_ends before (b ∷ bs) = all_ends b bs

word_ends : (before : ℕ) (bs : List ℕ) → Ends (prefix_len in_identifier bs) before bs
word_ends before [] = tt
word_ends before (c ∷ cs) = by (in_identifier c) refl (word_ends c cs)
  where
    by : (t : Bool) → in_identifier c ≡ t → Ends (prefix_len in_identifier cs) c cs → Ends (cond t (1 + prefix_len in_identifier cs) 0) before (c ∷ cs)
    by true e below = one_more (prefix_len in_identifier cs) c cs before below
    by false e below = false_right (in_identifier before) (in_identifier c) e

quoted_ends : (protected : Bool) (before : ℕ) (bs : List ℕ) → Ends (quoted_length protected bs) before bs
quoted_ends protected before [] = tt
quoted_ends protected before (b ∷ bs) = by (not protected && b == 34) refl (quoted_ends (not protected && b == 92) b bs)
  where
    by : (t : Bool) → (not protected && b == 34) ≡ t → Ends (quoted_length (not protected && b == 92) bs) b bs → Ends (if t then 1 else (1 + quoted_length (not protected && b == 92) bs)) before (b ∷ bs)
    by true e below = outside b bs (none_in b 34 (and_right (not protected) (b == 34) e) refl)
    by false e below = one_more (quoted_length (not protected && b == 92) bs) b bs before below

block_ends : (star : Bool) (before : ℕ) (bs : List ℕ) → Ends (block_length star bs) before bs
block_ends star before [] = tt
block_ends star before (b ∷ bs) = by (star && b == 47) refl (block_ends (b == 42) b bs)
  where
    by : (t : Bool) → (star && b == 47) ≡ t → Ends (block_length (b == 42) bs) b bs → Ends (if t then 1 else (1 + block_length (b == 42) bs)) before (b ∷ bs)
    by true e below = outside b bs (none_in b 47 (and_right star (b == 47) e) refl)
    by false e below = one_more (block_length (b == 42) bs) b bs before below

comment_ends : (b : ℕ) (bs : List ℕ) → Ends (block_length false (b ∷ bs) - 1) b bs
comment_ends b bs = one_less (block_length (b == 42) bs) b bs (block_ends (b == 42) b bs)

slash_ends : (b : ℕ) (bs : List ℕ) → in_identifier b ≡ false → Ends ((fragment_of_slash bs).length - 1) b bs
unfolding fragment_of_slash
slash_ends b [] e = tt
slash_ends b (c ∷ cs) out = by (c == 47) (c == 42)
  where
    by : (s t : Bool) → Ends ((if s then made Comment (2 + length cs) false else (if t then made Comment (2 + block_length false cs) (block_is_open false cs) else made Other 1 false)).length - 1) b (c ∷ cs)
    by true t = let e : length (c ∷ cs) ≡ 2 + length cs - 1 = omega arith in subst (λ n. Ends n b (c ∷ cs)) e (all_ends b (c ∷ cs))
    by false true = let e : suc (block_length false cs) ≡ 2 + block_length false cs - 1 = omega arith in subst (λ n. Ends n b (c ∷ cs)) e (block_ends false c cs)
    by false false = outside b (c ∷ cs) out

fragment_ends : (b : ℕ) (bs : List ℕ) → Ends ((fragment_of b bs).length - 1) b bs
unfolding fragment_of
fragment_ends b bs = by (begins_identifier b) (is_ascii_digit b) (b == 34) (b == 47) refl refl refl
  where
    by : (i d q s : Bool) → begins_identifier b ≡ i → is_ascii_digit b ≡ d → (b == 47) ≡ s
        → Ends ((if i then made Identifier (1 + prefix_len in_identifier bs) false else (if d then made Number (1 + prefix_len in_identifier bs) false else (
        if q then made Quoted (1 + quoted_length false bs) false else (if s then fragment_of_slash bs else made Other 1 false)))).length - 1) b bs
    by true d q s ei ed es = one_less (prefix_len in_identifier bs) b bs (word_ends b bs)
    by false true q s ei ed es = one_less (prefix_len in_identifier bs) b bs (word_ends b bs)
    by false false true s ei ed es = one_less (quoted_length false bs) b bs (quoted_ends false b bs)
    by false false false true ei ed es = slash_ends b bs (none_in b 47 es refl)
    by false false false false ei ed es = outside b bs (ap (λ t. t || is_ascii_digit b) ei ∙ ed)

-- ---- what is free

free_both : (text_of : List ℕ → Option (List ℕ)) (names more : List (List ℕ)) → AreFree text_of names → AreFree text_of more → AreFree text_of (names ++ more)
free_both text_of [] more free free' = free'
free_both text_of (name ∷ names) more free free' = (free.0, free_both text_of names more free.1 free')

behind_free : (text_of : List ℕ → Option (List ℕ)) (passed before : ℕ) (text : List ℕ) → IsClear text_of before text → Ends passed before text → AreFree text_of (identifiers (fragments_behind passed text))
unfolding fragments_behind
behind_free text_of zero before [] clear ends = tt
behind_free text_of (suc n) before [] clear ends = tt
behind_free text_of zero before (b ∷ bs) clear ends =
    free_both text_of (identifier_by (fragment_of b bs).kind (take (fragment_of b bs).length (b ∷ bs))) (identifiers (fragments_behind ((fragment_of b bs).length - 1) bs)) (clear.0 ends)
    (behind_free text_of ((fragment_of b bs).length - 1) b bs clear.1 (fragment_ends b bs))
behind_free text_of (suc n) before (b ∷ bs) clear ends = behind_free text_of n b bs clear.1 ends

-- a text that stands behind no word
pub clear_free : (text_of : List ℕ → Option (List ℕ)) (in_comment : Bool) (text : List ℕ) → IsClear text_of 32 text → AreFree text_of (identifiers (fragments in_comment text))
unfolding fragments
clear_free text_of in_comment [] clear = tt
clear_free text_of false (b ∷ bs) clear =
    free_both text_of (identifier_by (fragment_of b bs).kind (take (fragment_of b bs).length (b ∷ bs))) (identifiers (fragments_behind ((fragment_of b bs).length - 1) bs)) (clear.0 refl)
    (behind_free text_of ((fragment_of b bs).length - 1) b bs clear.1 (fragment_ends b bs))
clear_free text_of true (b ∷ bs) clear = behind_free text_of (block_length false (b ∷ bs) - 1) b bs clear.1 (comment_ends b bs)

-- ---- a byte that begins no name

free_kind : (text_of : List ℕ → Option (List ℕ)) (kind : FragmentKind) (text : List ℕ) → text_of text ≡ None → AreFree text_of (identifier_by kind text)
free_kind text_of Identifier text none = (none, tt)
free_kind text_of Number text none = tt
free_kind text_of Quoted text none = tt
free_kind text_of Comment text none = tt
free_kind text_of Other text none = tt

first_unmarked : (text_of : List ℕ → Option (List ℕ)) (b : ℕ) (bs : List ℕ) → ((behind : List ℕ) → text_of (b ∷ behind) ≡ None) → FirstIsFree text_of (b ∷ bs)
first_unmarked text_of b bs none =
    let n : ℕ = (first_fragment false (b ∷ bs)).length in
    let forward : 0 < n = first_forward false (b ∷ bs) (omega arith) in
    let e : n ≡ suc (n - 1) = omega arith in
    free_kind text_of (first_fragment false (b ∷ bs)).kind (take n (b ∷ bs)) (ap (λ m. text_of (take m (b ∷ bs))) e ∙ none (take (n - 1) bs))

-- ---- one byte after another

pub clear_step : (text_of : List ℕ → Option (List ℕ)) (before : ℕ) (text : List ℕ) → 0 < length text → ((in_identifier before && in_identifier (slice_index text 0)) ≡ false → FirstIsFree text_of text)
    → IsClear text_of (slice_index text 0) (drop 1 text) → IsClear text_of before text
clear_step text_of before [] some free clear = absurd (omega arith)
clear_step text_of before (b ∷ bs) some free clear = (free, clear)

pub unmarked_step : (text_of : List ℕ → Option (List ℕ)) (before : ℕ) (text : List ℕ) → 0 < length text → ((behind : List ℕ) → text_of (slice_index text 0 ∷ behind) ≡ None)
    → IsClear text_of (slice_index text 0) (drop 1 text) → IsClear text_of before text
unmarked_step text_of before [] some none clear = absurd (omega arith)
unmarked_step text_of before (b ∷ bs) some none clear = (λ e. first_unmarked text_of b bs none, clear)

-- four such bytes
pub four_steps : (text_of : List ℕ → Option (List ℕ)) (before : ℕ) (text : List ℕ) → 4 ≤ length text
    → ((behind : List ℕ) → text_of (slice_index text 0 ∷ behind) ≡ None) → ((behind : List ℕ) → text_of (slice_index text 1 ∷ behind) ≡ None)
    → ((behind : List ℕ) → text_of (slice_index text 2 ∷ behind) ≡ None) → ((behind : List ℕ) → text_of (slice_index text 3 ∷ behind) ≡ None)
    → IsClear text_of (slice_index text 3) (drop 4 text) → IsClear text_of before text
four_steps text_of before [] many e f g h clear = absurd (omega arith)
four_steps text_of before (a ∷ []) many e f g h clear = absurd (omega arith)
four_steps text_of before (a ∷ b ∷ []) many e f g h clear = absurd (omega arith)
four_steps text_of before (a ∷ b ∷ c ∷ []) many e f g h clear = absurd (omega arith)
four_steps text_of before (a ∷ b ∷ c ∷ d ∷ ds) many e f g h clear =
    unmarked_step text_of before (a ∷ b ∷ c ∷ d ∷ ds) (omega arith) e
    (unmarked_step text_of a (b ∷ c ∷ d ∷ ds) (omega arith) f (unmarked_step text_of b (c ∷ d ∷ ds) (omega arith) g (unmarked_step text_of c (d ∷ ds) (omega arith) h clear)))
