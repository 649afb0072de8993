-- The walk over bytes sees the preprocessor's strings and comments.
use Rattle.std.proofs.Common.{◌≡◌, ℕ, suc, ◌+◌, Bool, true, false, cond, List, [], ◌∷◌, ◌++◌, length, take, drop, refl, sym, ap, ◌∙◌, append-nil, arith}
use Rattle.std.specs.Prelude.{◌==◌, ◌&&◌, ◌||◌, if◌then◌else◌, All, ◌≢◌}
use Rattle.std.specs.List.{prefix_len, flat_map}
use Rattle.std.specs.Char.{is_ascii_digit}
use Rattle.std.proofs.lemmas.Bool.{eqb-true, ne_eqb}
use Rattle.std.proofs.Math.Seq.{take-length, drop-length}
use Rattle.std.proofs.lemmas.List.Elements.{All-head, All-tail}
use Rattle.iasl_messages.specs.declared.place.Line.{Line}
use Rattle.asl_lexer.specs.Scan.{MarkedByte}
use Rattle.asl_lexer.specs.Marks.{marks_from, line_marks, following, joined}
use Rattle.asl_fragments.specs.declared.fragment.Fragment.{Fragment}
use Rattle.asl_fragments.specs.declared.fragment.FragmentKind.TheVariants.{Identifier, Number, Quoted, Comment, Other}
use Rattle.asl_fragments.specs.Bytes.{begins_identifier, in_identifier}
use Rattle.asl_fragments.specs.Fragments.{quoted_length, block_length, block_is_open, made, fragment_of_slash, fragment_of, first_fragment, piece_of, fragments, open_behind, ends_in_comment}
use Rattle.asl_fragments.proofs.FragmentLaws.{fragments_step, no_fragments}
use Rattle.asl_fragments.proofs.Joined.{first_forward}
use Rattle.source_laws.specs.Sights.{Sight, InString, InComment, Elsewhere, each, piece_sights, line_sights, sights_behind, sights_of}
use Rattle.source_laws.proofs.Lexed.{bytes}
use Rattle.source_laws.proofs.Walks.{Where, between, string, protected, line, block, star, walk, plain_on, quote_on, slash_sight, behind_slash, slash_alone, no_second, line_on, block_on, comment_on, quoted, protected_on, string_on, string_ends, starred, block_goes, block_ends, AtEnd, at_end, at_break, line_at_end, quoted_at_end, starred_at_end, end_no_comment}

-- a line has no line's end in it
abbrev pub HasNoEnd : List ℕ → Type 0
HasNoEnd [] = Unit {0}
HasNoEnd (b ∷ bs) = ((b == 10) ≡ false) × HasNoEnd bs

-- what stands behind a line that leaves a comment open, or not
abbrev mode : Bool → Where
mode left_open = cond left_open block between

-- ---- the first fragment

abbrev of_first : Fragment → List ℕ → List Sight
of_first f text = piece_sights (piece_of f text) ++ line_sights false (drop f.length text)

abbrev open_first : Fragment → List ℕ → Bool
open_first f text = open_behind f.left_open (fragments false (drop f.length text))

first_sights : (inside : Bool) (b : ℕ) (bs : List ℕ) → line_sights inside (b ∷ bs) ≡ of_first (first_fragment inside (b ∷ bs)) (b ∷ bs)
first_sights inside b bs = ap (flat_map piece_sights) (fragments_step inside (b ∷ bs) (omega arith) (first_forward inside (b ∷ bs) (omega arith)))

first_open : (inside : Bool) (b : ℕ) (bs : List ℕ) → ends_in_comment inside (b ∷ bs) ≡ open_first (first_fragment inside (b ∷ bs)) (b ∷ bs)
unfolding ends_in_comment
first_open inside b bs = ap (open_behind inside) (fragments_step inside (b ∷ bs) (omega arith) (first_forward inside (b ∷ bs) (omega arith)))

ends_is : (text : List ℕ) → ends_in_comment false text ≡ open_behind false (fragments false text)
unfolding ends_in_comment
ends_is text = refl

one_more : (n : ℕ) → 1 + n ≡ suc n
one_more n = omega arith

two_more : (n : ℕ) → 2 + n ≡ suc (suc n)
two_more n = omega arith

-- what a line's rest, of which this is known, comes to
record Goes (at : Where) (text more : List ℕ) (sights : List Sight) (left_open : Bool) : Type 0 where
  is : walk at (text ++ more) ≡ sights ++ walk (mode left_open) more

goes_as : (at : Where) (text more : List ℕ) (s t : List Sight) (o u : Bool) → s ≡ t → o ≡ u → Goes at text more s o → Goes at text more t u
goes_as at text more s t o u e f h = record { is = h.is ∙ ap (λ l. l ++ walk (mode o) more) e ∙ ap (λ x. t ++ walk (mode x) more) f }

-- one more byte in front
goes_on : (at next : Where) (b : ℕ) (bs more : List ℕ) (sight : Sight) (s : List Sight) (o : Bool) → walk at (b ∷ bs ++ more) ≡ sight ∷ walk next (bs ++ more) → Goes next bs more s o → Goes at (b ∷ bs) more (sight ∷ s) o
goes_on at next b bs more sight s o e h = record { is = e ∙ ap (λ l. sight ∷ l) h.is }

-- ---- words

-- a fragment by a byte of a word
abbrev by_word : Bool → Bool → Bool → Bool → List ℕ → Fragment
by_word i d q s bs = if i then made Identifier (1 + prefix_len in_identifier bs) false else (if d then made Number (1 + prefix_len in_identifier bs) false else (
    if q then made Quoted (1 + quoted_length false bs) false else (if s then fragment_of_slash bs else made Other 1 false)))

fragment_is : (b : ℕ) (bs : List ℕ) (i d q s : Bool) → begins_identifier b ≡ i → is_ascii_digit b ≡ d → (b == 34) ≡ q → (b == 47) ≡ s → fragment_of b bs ≡ by_word i d q s bs
unfolding fragment_of
fragment_is b bs i d q s ei ed eq es =
    ap (λ t. by_word t (is_ascii_digit b) (b == 34) (b == 47) bs) ei ∙ ap (λ t. by_word i t (b == 34) (b == 47) bs) ed
    ∙ ap (λ t. by_word i d t (b == 47) bs) eq ∙ ap (λ t. by_word i d q t bs) es

-- what a fragment of a word comes to: its bytes, and what stands behind them
record Words (b : ℕ) (bs : List ℕ) : Type 0 where
  sights : line_sights false (b ∷ bs) ≡ Elsewhere ∷ each Elsewhere (take (prefix_len in_identifier bs) bs) ++ line_sights false (drop (prefix_len in_identifier bs) bs)
  opens : ends_in_comment false (b ∷ bs) ≡ ends_in_comment false (drop (prefix_len in_identifier bs) bs)

word_first : (b : ℕ) (bs : List ℕ) (i d q s : Bool) → begins_identifier b ≡ i → is_ascii_digit b ≡ d → (b == 34) ≡ q → (b == 47) ≡ s → (i || d) ≡ true → Words b bs
word_first b bs true d q s ei ed eq es h = record {
  sights =
      first_sights false b bs ∙ ap (λ f. of_first f (b ∷ bs)) (fragment_is b bs true d q s ei ed eq es)
      ∙ ap (λ n. each Elsewhere (take n (b ∷ bs)) ++ line_sights false (drop n (b ∷ bs))) (one_more (prefix_len in_identifier bs));
  opens =
      first_open false b bs ∙ ap (λ f. open_first f (b ∷ bs)) (fragment_is b bs true d q s ei ed eq es)
      ∙ ap (λ n. open_behind false (fragments false (drop n (b ∷ bs)))) (one_more (prefix_len in_identifier bs)) ∙ sym (ends_is (drop (prefix_len in_identifier bs) bs));
}
word_first b bs false true q s ei ed eq es h = record {
  sights =
      first_sights false b bs ∙ ap (λ f. of_first f (b ∷ bs)) (fragment_is b bs false true q s ei ed eq es)
      ∙ ap (λ n. each Elsewhere (take n (b ∷ bs)) ++ line_sights false (drop n (b ∷ bs))) (one_more (prefix_len in_identifier bs));
  opens =
      first_open false b bs ∙ ap (λ f. open_first f (b ∷ bs)) (fragment_is b bs false true q s ei ed eq es)
      ∙ ap (λ n. open_behind false (fragments false (drop n (b ∷ bs)))) (one_more (prefix_len in_identifier bs)) ∙ sym (ends_is (drop (prefix_len in_identifier bs) bs));
}
word_first b bs false false q s ei ed eq es h = absurd cc

-- the rest of a word is a word, or none is left
word_rest : (bs : List ℕ) → (each Elsewhere (take (prefix_len in_identifier bs) bs) ++ line_sights false (drop (prefix_len in_identifier bs) bs) ≡ line_sights false bs)
    × (ends_in_comment false (drop (prefix_len in_identifier bs) bs) ≡ ends_in_comment false bs)
word_rest [] = (refl, refl)
word_rest (c ∷ cs) = by (in_identifier c) refl
  where
    by : (t : Bool) → in_identifier c ≡ t → (each Elsewhere (take (cond t (1 + prefix_len in_identifier cs) 0) (c ∷ cs)) ++ line_sights false (drop (cond t (1 + prefix_len in_identifier cs) 0) (c ∷ cs)) ≡ line_sights false (c ∷ cs))
        × (ends_in_comment false (drop (cond t (1 + prefix_len in_identifier cs) 0) (c ∷ cs)) ≡ ends_in_comment false (c ∷ cs))
    by true e =
        let w = word_first c cs (begins_identifier c) (is_ascii_digit c) (c == 34) (c == 47) refl refl refl refl e in (
          ap (λ n. each Elsewhere (take n (c ∷ cs)) ++ line_sights false (drop n (c ∷ cs))) (one_more (prefix_len in_identifier cs)) ∙ sym w.sights,
          ap (λ n. ends_in_comment false (drop n (c ∷ cs))) (one_more (prefix_len in_identifier cs)) ∙ sym w.opens,
        )
    by false e = (refl, refl)

record Plainly (b : ℕ) (bs : List ℕ) : Type 0 where
  sights : line_sights false (b ∷ bs) ≡ Elsewhere ∷ line_sights false bs
  opens : ends_in_comment false (b ∷ bs) ≡ ends_in_comment false bs

as_word : (b : ℕ) (bs : List ℕ) → Words b bs → Plainly b bs
as_word b bs w = record { sights = w.sights ∙ ap (λ l. Elsewhere ∷ l) (word_rest bs).0; opens = w.opens ∙ (word_rest bs).1 }

-- a byte by which neither a string nor a comment begins
plainly : (b : ℕ) (bs : List ℕ) (i d : Bool) → begins_identifier b ≡ i → is_ascii_digit b ≡ d → (b == 34) ≡ false → (b == 47) ≡ false → Plainly b bs
plainly b bs true d ei ed eq es = as_word b bs (word_first b bs true d false false ei ed eq es refl)
plainly b bs false true ei ed eq es = as_word b bs (word_first b bs false true false false ei ed eq es refl)
plainly b bs false false ei ed eq es = record {
  sights = first_sights false b bs ∙ ap (λ f. of_first f (b ∷ bs)) (fragment_is b bs false false false false ei ed eq es);
  opens = first_open false b bs ∙ ap (λ f. open_first f (b ∷ bs)) (fragment_is b bs false false false false ei ed eq es) ∙ sym (ends_is bs);
}

-- a quote and a slash are in no word
no_word : (n b : ℕ) → (begins_identifier n || is_ascii_digit n) ≡ false → (b == n) ≡ true → (begins_identifier b ≡ false) × (is_ascii_digit b ≡ false)
no_word n b apart e = let same : b ≡ n = eqb-true b n e in by (begins_identifier b) (is_ascii_digit b) (ap (λ k. begins_identifier k || is_ascii_digit k) same ∙ apart)
  where
    by : (s t : Bool) → (s || t) ≡ false → (s ≡ false) × (t ≡ false)
    by true t f = absurd cc
    by false t f = (refl, f)

-- ---- strings and comments to their ends

-- nothing is left
no_sights : (inside : Bool) → line_sights inside [] ≡ []
no_sights inside = ap (flat_map piece_sights) (no_fragments inside [] refl)

nothing_open : (inside x : Bool) → open_behind x (fragments inside []) ≡ x
nothing_open inside x = ap (open_behind x) (no_fragments inside [] refl)

ends_nothing : (inside : Bool) → ends_in_comment inside [] ≡ inside
unfolding ends_in_comment
ends_nothing inside = nothing_open inside inside

abbrev StringGoes : Bool → List ℕ → List ℕ → Type 0
StringGoes p text more = Goes (quoted p) text more (each InString (take (quoted_length p text) text) ++ line_sights false (drop (quoted_length p text) text)) (ends_in_comment false (drop (quoted_length p text) text))

abbrev BlockGoes : Bool → List ℕ → List ℕ → Type 0
BlockGoes s text more = Goes (starred s) text more (each InComment (take (block_length s text) text) ++ line_sights false (drop (block_length s text) text)) (open_behind (block_is_open s text) (fragments false (drop (block_length s text) text)))

abbrev BetweenGoes : List ℕ → List ℕ → Type 0
BetweenGoes text more = Goes between text more (line_sights false text) (ends_in_comment false text)

string_step : (p : Bool) (b : ℕ) (bs more : List ℕ) → (b == 10) ≡ false → BetweenGoes bs more → ((t : Bool) → StringGoes t bs more) → StringGoes p (b ∷ bs) more
string_step true b bs more no_end behind goes =
    goes_as protected (b ∷ bs) more (InString ∷ each InString (take (quoted_length false bs) bs) ++ line_sights false (drop (quoted_length false bs) bs))
    (each InString (take (1 + quoted_length false bs) (b ∷ bs)) ++ line_sights false (drop (1 + quoted_length false bs) (b ∷ bs)))
    (ends_in_comment false (drop (quoted_length false bs) bs)) (ends_in_comment false (drop (1 + quoted_length false bs) (b ∷ bs)))
    (ap (λ n. each InString (take n (b ∷ bs)) ++ line_sights false (drop n (b ∷ bs))) (sym (one_more (quoted_length false bs))))
    (ap (λ n. ends_in_comment false (drop n (b ∷ bs))) (sym (one_more (quoted_length false bs))))
    (goes_on protected string b bs more InString (each InString (take (quoted_length false bs) bs) ++ line_sights false (drop (quoted_length false bs) bs)) (ends_in_comment false (drop (quoted_length false bs) bs))
    (protected_on b (bs ++ more) no_end) (goes false))
string_step false b bs more no_end behind goes = by (b == 34) refl
  where
    n : ℕ
    n = quoted_length (b == 92) bs

    by : (t : Bool) → (b == 34) ≡ t
        → Goes string (b ∷ bs) more (each InString (take (if t then 1 else (1 + quoted_length (b == 92) bs)) (b ∷ bs)) ++ line_sights false (drop (if t then 1 else (1 + quoted_length (b == 92) bs)) (b ∷ bs)))
        (ends_in_comment false (drop (if t then 1 else (1 + quoted_length (b == 92) bs)) (b ∷ bs)))
    by true e = goes_on string between b bs more InString (line_sights false bs) (ends_in_comment false bs) (string_ends b (bs ++ more) no_end e) behind
    by false e =
        goes_as string (b ∷ bs) more (InString ∷ each InString (take (quoted_length (b == 92) bs) bs) ++ line_sights false (drop (quoted_length (b == 92) bs) bs))
        (each InString (take (1 + quoted_length (b == 92) bs) (b ∷ bs)) ++ line_sights false (drop (1 + quoted_length (b == 92) bs) (b ∷ bs)))
        (ends_in_comment false (drop (quoted_length (b == 92) bs) bs)) (ends_in_comment false (drop (1 + quoted_length (b == 92) bs) (b ∷ bs)))
        (ap (λ m. each InString (take m (b ∷ bs)) ++ line_sights false (drop m (b ∷ bs))) (sym (one_more (quoted_length (b == 92) bs))))
        (ap (λ m. ends_in_comment false (drop m (b ∷ bs))) (sym (one_more (quoted_length (b == 92) bs))))
        (goes_on string (quoted (b == 92)) b bs more InString (each InString (take (quoted_length (b == 92) bs) bs) ++ line_sights false (drop (quoted_length (b == 92) bs) bs)) (ends_in_comment false (drop (quoted_length (b == 92) bs) bs))
        (string_on b (bs ++ more) no_end e) (goes (b == 92)))

-- a block comment
block_step : (s : Bool) (b : ℕ) (bs more : List ℕ) → BetweenGoes bs more → ((t : Bool) → BlockGoes t bs more) → BlockGoes s (b ∷ bs) more
block_step s b bs more behind goes = by s (b == 47) refl
  where
    goes_further : (s : Bool) → (s ≡ true → (b == 47) ≡ false)
        → Goes (starred s) (b ∷ bs) more (each InComment (take (1 + block_length (b == 42) bs) (b ∷ bs)) ++ line_sights false (drop (1 + block_length (b == 42) bs) (b ∷ bs)))
        (open_behind (block_is_open (b == 42) bs) (fragments false (drop (1 + block_length (b == 42) bs) (b ∷ bs))))
    goes_further s no_close =
        goes_as (starred s) (b ∷ bs) more (InComment ∷ each InComment (take (block_length (b == 42) bs) bs) ++ line_sights false (drop (block_length (b == 42) bs) bs))
        (each InComment (take (1 + block_length (b == 42) bs) (b ∷ bs)) ++ line_sights false (drop (1 + block_length (b == 42) bs) (b ∷ bs)))
        (open_behind (block_is_open (b == 42) bs) (fragments false (drop (block_length (b == 42) bs) bs))) (open_behind (block_is_open (b == 42) bs) (fragments false (drop (1 + block_length (b == 42) bs) (b ∷ bs))))
        (ap (λ m. each InComment (take m (b ∷ bs)) ++ line_sights false (drop m (b ∷ bs))) (sym (one_more (block_length (b == 42) bs))))
        (ap (λ m. open_behind (block_is_open (b == 42) bs) (fragments false (drop m (b ∷ bs)))) (sym (one_more (block_length (b == 42) bs))))
        (goes_on (starred s) (starred (b == 42)) b bs more InComment (each InComment (take (block_length (b == 42) bs) bs) ++ line_sights false (drop (block_length (b == 42) bs) bs))
        (open_behind (block_is_open (b == 42) bs) (fragments false (drop (block_length (b == 42) bs) bs))) (block_goes s b (bs ++ more) no_close) (goes (b == 42)))

    by : (s t : Bool) → (b == 47) ≡ t
        → Goes (starred s) (b ∷ bs) more
        (each InComment (take (if s && t then 1 else (1 + block_length (b == 42) bs)) (b ∷ bs)) ++ line_sights false (drop (if s && t then 1 else (1 + block_length (b == 42) bs)) (b ∷ bs)))
        (open_behind (if s && t then false else block_is_open (b == 42) bs) (fragments false (drop (if s && t then 1 else (1 + block_length (b == 42) bs)) (b ∷ bs))))
    by true true e =
        goes_as star (b ∷ bs) more (InComment ∷ line_sights false bs) (InComment ∷ line_sights false bs) (ends_in_comment false bs) (open_behind false (fragments false bs)) refl (ends_is bs)
        (goes_on star between b bs more InComment (line_sights false bs) (ends_in_comment false bs) (block_ends b (bs ++ more) e) behind)
    by true false e = goes_further true (λ f. e)
    by false t e = goes_further false (λ f. absurd cc)

line_goes : (text more : List ℕ) → HasNoEnd text → AtEnd more → Goes line text more (each InComment text) false
line_goes [] more no_end end = record { is = line_at_end end }
line_goes (b ∷ bs) more no_end end = goes_on line line b bs more InComment (each InComment bs) false (comment_on b (bs ++ more) no_end.0) (line_goes bs more no_end.1 end)

-- ---- between all parts

-- a quote
quote_step : (b : ℕ) (bs more : List ℕ) → (b == 34) ≡ true → StringGoes false bs more → BetweenGoes (b ∷ bs) more
quote_step b bs more e goes =
    let apart = no_word 34 b refl e in
    let is = fragment_is b bs false false true (b == 47) apart.0 apart.1 e refl in
    goes_as between (b ∷ bs) more (InString ∷ each InString (take (quoted_length false bs) bs) ++ line_sights false (drop (quoted_length false bs) bs)) (line_sights false (b ∷ bs))
    (ends_in_comment false (drop (quoted_length false bs) bs)) (ends_in_comment false (b ∷ bs))
    (sym (first_sights false b bs ∙ ap (λ f. of_first f (b ∷ bs)) is ∙ ap (λ n. each InString (take n (b ∷ bs)) ++ line_sights false (drop n (b ∷ bs))) (one_more (quoted_length false bs))))
    (sym (first_open false b bs ∙ ap (λ f. open_first f (b ∷ bs)) is ∙ ap (λ n. open_behind false (fragments false (drop n (b ∷ bs)))) (one_more (quoted_length false bs)) ∙ sym (ends_is (drop (quoted_length false bs) bs))))
    (goes_on between string b bs more InString (each InString (take (quoted_length false bs) bs) ++ line_sights false (drop (quoted_length false bs) bs)) (ends_in_comment false (drop (quoted_length false bs) bs)) (quote_on b (bs ++ more) e) goes)

plain_step : (b : ℕ) (bs more : List ℕ) → (b == 34) ≡ false → (b == 47) ≡ false → BetweenGoes bs more → BetweenGoes (b ∷ bs) more
plain_step b bs more no_quote no_slash goes =
    let q = plainly b bs (begins_identifier b) (is_ascii_digit b) refl refl no_quote no_slash in
    goes_as between (b ∷ bs) more (Elsewhere ∷ line_sights false bs) (line_sights false (b ∷ bs)) (ends_in_comment false bs) (ends_in_comment false (b ∷ bs)) (sym q.sights) (sym q.opens)
    (goes_on between between b bs more Elsewhere (line_sights false bs) (ends_in_comment false bs) (plain_on b (bs ++ more) no_quote no_slash) goes)

-- a slash, by what its fragment is
slash_is : (b : ℕ) (bs : List ℕ) → (b == 34) ≡ false → (b == 47) ≡ true → fragment_of b bs ≡ fragment_of_slash bs
slash_is b bs no_quote e = let apart = no_word 47 b refl e in fragment_is b bs false false false true apart.0 apart.1 no_quote e

-- alone
alone_step : (b : ℕ) (bs more : List ℕ) → (b == 34) ≡ false → (b == 47) ≡ true → fragment_of_slash bs ≡ made Other 1 false → slash_sight (bs ++ more) ≡ Elsewhere → behind_slash (bs ++ more) ≡ between → BetweenGoes bs more → BetweenGoes (b ∷ bs) more
alone_step b bs more no_quote e is f g goes =
    let whole = slash_is b bs no_quote e ∙ is in
    goes_as between (b ∷ bs) more (Elsewhere ∷ line_sights false bs) (line_sights false (b ∷ bs)) (ends_in_comment false bs) (ends_in_comment false (b ∷ bs))
    (sym (first_sights false b bs ∙ ap (λ x. of_first x (b ∷ bs)) whole))
    (sym (first_open false b bs ∙ ap (λ x. open_first x (b ∷ bs)) whole ∙ sym (ends_is bs)))
    (goes_on between between b bs more Elsewhere (line_sights false bs) (ends_in_comment false bs) (slash_alone b (bs ++ more) no_quote e f g) goes)

abbrev by_second : Bool → Bool → List ℕ → Fragment
by_second s t cs = if s then made Comment (2 + length cs) false else (if t then made Comment (2 + block_length false cs) (block_is_open false cs) else made Other 1 false)

slash_by : (c : ℕ) (cs : List ℕ) → fragment_of_slash (c ∷ cs) ≡ by_second (c == 47) (c == 42) cs
unfolding fragment_of_slash
slash_by c cs = refl

last_slash : fragment_of_slash [] ≡ made Other 1 false
unfolding fragment_of_slash
last_slash = refl

-- `//`
comment_step : (b c : ℕ) (cs more : List ℕ) → (b == 34) ≡ false → (b == 47) ≡ true → (c == 47) ≡ true → Goes line (c ∷ cs) more (each InComment (c ∷ cs)) false → BetweenGoes (b ∷ c ∷ cs) more
comment_step b c cs more no_quote e f goes =
    let whole : fragment_of b (c ∷ cs) ≡ made Comment (2 + length cs) false = slash_is b (c ∷ cs) no_quote e ∙ slash_by c cs ∙ ap (λ t. by_second t (c == 42) cs) f in
    let all : take (2 + length cs) (b ∷ c ∷ cs) ≡ b ∷ c ∷ cs = ap (λ n. take n (b ∷ c ∷ cs)) (two_more (length cs)) ∙ ap (λ l. b ∷ c ∷ l) (take-length cs) in
    let nothing : drop (2 + length cs) (b ∷ c ∷ cs) ≡ [] = ap (λ n. drop n (b ∷ c ∷ cs)) (two_more (length cs)) ∙ drop-length cs in
    goes_as between (b ∷ c ∷ cs) more (each InComment (b ∷ c ∷ cs)) (line_sights false (b ∷ c ∷ cs)) false (ends_in_comment false (b ∷ c ∷ cs))
    (sym (first_sights false b (c ∷ cs) ∙ ap (λ x. of_first x (b ∷ c ∷ cs)) whole ∙ ap (λ l. each InComment l ++ line_sights false (drop (2 + length cs) (b ∷ c ∷ cs))) all
    ∙ ap (λ l. each InComment (b ∷ c ∷ cs) ++ line_sights false l) nothing ∙ ap (λ l. each InComment (b ∷ c ∷ cs) ++ l) (no_sights false) ∙ append-nil (each InComment (b ∷ c ∷ cs))))
    (sym (first_open false b (c ∷ cs) ∙ ap (λ x. open_first x (b ∷ c ∷ cs)) whole ∙ ap (λ l. open_behind false (fragments false l)) nothing ∙ nothing_open false false))
    (goes_on between line b (c ∷ cs) more InComment (each InComment (c ∷ cs)) false (line_on b c (cs ++ more) no_quote e f) goes)

-- `/*`
opening_step : (b c : ℕ) (cs more : List ℕ) → (b == 34) ≡ false → (b == 47) ≡ true → (c == 47) ≡ false → (c == 42) ≡ true → BlockGoes false cs more → BetweenGoes (b ∷ c ∷ cs) more
opening_step b c cs more no_quote e no_slash f goes =
    let n : ℕ = block_length false cs in
    let left : Bool = block_is_open false cs in
    let whole : fragment_of b (c ∷ cs) ≡ made Comment (2 + block_length false cs) (block_is_open false cs) =
    slash_is b (c ∷ cs) no_quote e ∙ slash_by c cs ∙ ap (λ t. by_second t (c == 42) cs) no_slash ∙ ap (λ t. by_second false t cs) f in
    goes_as between (b ∷ c ∷ cs) more (InComment ∷ InComment ∷ each InComment (take n cs) ++ line_sights false (drop n cs)) (line_sights false (b ∷ c ∷ cs)) (open_behind left (fragments false (drop n cs))) (ends_in_comment false (b ∷ c ∷ cs))
    (sym (first_sights false b (c ∷ cs) ∙ ap (λ x. of_first x (b ∷ c ∷ cs)) whole ∙ ap (λ m. each InComment (take m (b ∷ c ∷ cs)) ++ line_sights false (drop m (b ∷ c ∷ cs))) (two_more n)))
    (sym (first_open false b (c ∷ cs) ∙ ap (λ x. open_first x (b ∷ c ∷ cs)) whole ∙ ap (λ m. open_behind left (fragments false (drop m (b ∷ c ∷ cs)))) (two_more n)))
    (record { is = block_on b c (cs ++ more) no_quote e no_slash f ∙ ap (λ l. InComment ∷ InComment ∷ l) goes.is })

-- a slash before this byte
second_step : (b c : ℕ) (cs more : List ℕ) → (b == 34) ≡ false → (b == 47) ≡ true → Goes line (c ∷ cs) more (each InComment (c ∷ cs)) false → BlockGoes false cs more → BetweenGoes (c ∷ cs) more → BetweenGoes (b ∷ c ∷ cs) more
second_step b c cs more no_quote e line_is block_is goes = by (c == 47) (c == 42) refl refl
  where
    by : (s t : Bool) → (c == 47) ≡ s → (c == 42) ≡ t → BetweenGoes (b ∷ c ∷ cs) more
    by true t f g = comment_step b c cs more no_quote e f line_is
    by false true f g = opening_step b c cs more no_quote e f g block_is
    by false false f g =
        let next = no_second c (cs ++ more) f g in
        alone_step b (c ∷ cs) more no_quote e (slash_by c cs ∙ ap (λ t. by_second t (c == 42) cs) f ∙ ap (λ t. by_second false t cs) g) next.0 next.1 goes

-- a line's last byte
last_step : (b : ℕ) (more : List ℕ) → AtEnd more → BetweenGoes [] more → StringGoes false [] more → BetweenGoes (b ∷ []) more
last_step b more end goes in_string = by (b == 34) (b == 47) refl refl
  where
    by : (s t : Bool) → (b == 34) ≡ s → (b == 47) ≡ t → BetweenGoes (b ∷ []) more
    by true t e f = quote_step b [] more e in_string
    by false true e f = let next = end_no_comment end in alone_step b [] more e f last_slash next.0 next.1 goes
    by false false e f = plain_step b [] more e f goes

two_step : (b c : ℕ) (cs more : List ℕ) → StringGoes false (c ∷ cs) more → Goes line (c ∷ cs) more (each InComment (c ∷ cs)) false → BlockGoes false cs more → BetweenGoes (c ∷ cs) more → BetweenGoes (b ∷ c ∷ cs) more
two_step b c cs more in_string line_is block_is goes = by (b == 34) (b == 47) refl refl
  where
    by : (s t : Bool) → (b == 34) ≡ s → (b == 47) ≡ t → BetweenGoes (b ∷ c ∷ cs) more
    by true t e f = quote_step b (c ∷ cs) more e in_string
    by false true e f = second_step b c cs more e f line_is block_is goes
    by false false e f = plain_step b (c ∷ cs) more e f goes

nothing_goes : (at : Where) (more : List ℕ) → walk at more ≡ walk between more → Goes at [] more (line_sights false []) (ends_in_comment false [])
nothing_goes at more e = goes_as at [] more [] (line_sights false []) false (ends_in_comment false []) (sym (no_sights false)) (sym (ends_nothing false)) (record { is = e })

block_nothing : (s : Bool) (more : List ℕ) → AtEnd more → BlockGoes s [] more
block_nothing s more end =
    goes_as (starred s) [] more [] (line_sights false []) true (open_behind true (fragments false [])) (sym (no_sights false)) (sym (nothing_open false true)) (record { is = starred_at_end s end })

mutual
  between_goes : (text more : List ℕ) → HasNoEnd text → AtEnd more → BetweenGoes text more
  between_goes [] more no_end end = nothing_goes between more refl
  between_goes (b ∷ []) more no_end end = last_step b more end (nothing_goes between more refl) (nothing_goes string more (quoted_at_end false end))
  between_goes (b ∷ c ∷ cs) more no_end end =
      two_step b c cs more (string_goes (c ∷ cs) more false no_end.1 end) (line_goes (c ∷ cs) more no_end.1 end) (block_goes_on cs more false no_end.1.1 end) (between_goes (c ∷ cs) more no_end.1 end)

  string_goes : (text more : List ℕ) (p : Bool) → HasNoEnd text → AtEnd more → StringGoes p text more
  string_goes [] more p no_end end = nothing_goes (quoted p) more (quoted_at_end p end)
  string_goes (b ∷ bs) more p no_end end = string_step p b bs more no_end.0 (between_goes bs more no_end.1 end) (λ t. string_goes bs more t no_end.1 end)

  block_goes_on : (text more : List ℕ) (s : Bool) → HasNoEnd text → AtEnd more → BlockGoes s text more
  block_goes_on [] more s no_end end = block_nothing s more end
  block_goes_on (b ∷ bs) more s no_end end = block_step s b bs more (between_goes bs more no_end.1 end) (λ t. block_goes_on bs more t no_end.1 end)

-- ---- lines

line_goes_on : (inside : Bool) (text more : List ℕ) → HasNoEnd text → AtEnd more → Goes (mode inside) text more (line_sights inside text) (ends_in_comment inside text)
line_goes_on false text more no_end end = between_goes text more no_end end
line_goes_on true [] more no_end end = goes_as block [] more [] (line_sights true []) true (ends_in_comment true []) (sym (no_sights true)) (sym (ends_nothing true)) (record { is = refl })
line_goes_on true (b ∷ bs) more no_end end =
    goes_as block (b ∷ bs) more (each InComment (take (block_length false (b ∷ bs)) (b ∷ bs)) ++ line_sights false (drop (block_length false (b ∷ bs)) (b ∷ bs))) (line_sights true (b ∷ bs))
    (open_behind (block_is_open false (b ∷ bs)) (fragments false (drop (block_length false (b ∷ bs)) (b ∷ bs)))) (ends_in_comment true (b ∷ bs)) (sym (first_sights true b bs)) (sym (first_open true b bs)) (block_goes_on (b ∷ bs) more false no_end end)

no_end_of : (text : List ℕ) → All (λ b. b ≢ 10) text → HasNoEnd text
no_end_of [] h = tt
no_end_of (b ∷ bs) h = (ne_eqb b 10 (All-head (λ c. c ≢ 10) b bs h), no_end_of bs (All-tail (λ c. c ≢ 10) b bs h))

bytes_on : (xs ys : List MarkedByte) → bytes (xs ++ ys) ≡ bytes xs ++ bytes ys
bytes_on [] ys = refl
bytes_on (x ∷ xs) ys = ap (λ l. x.byte ∷ l) (bytes_on xs ys)

bytes_marks : (file n column : ℕ) (text : List ℕ) → bytes (marks_from file n column text) ≡ text
unfolding marks_from
bytes_marks file n column [] = refl
bytes_marks file n column (b ∷ bs) = ap (λ l. b ∷ l) (bytes_marks file n (column + 1) bs)

bytes_line : (l : Line) (ms : List MarkedByte) → bytes (line_marks l ++ ms) ≡ l.text ++ bytes ms
bytes_line l ms = bytes_on (line_marks l) ms ∙ ap (λ t. t ++ bytes ms) (bytes_marks l.file l.number 1 l.text)

following_ends : (ls : List Line) → AtEnd (bytes (following ls))
unfolding following
following_ends [] = at_end
following_ends (l ∷ ls) = at_break (bytes (line_marks l ++ following ls))

abbrev OfLine : Line → Type 0
OfLine l = All (λ b. b ≢ 10) l.text

following_walk : (ls : List Line) (left_open : Bool) → All OfLine ls → walk (mode left_open) (bytes (following ls)) ≡ sights_behind left_open ls
unfolding following
following_walk [] left_open h = refl
following_walk (l ∷ ls) left_open h = by left_open (following_walk ls (ends_in_comment left_open l.text) (All-tail OfLine l ls h))
  where
    further : (left_open : Bool) → walk (mode (ends_in_comment left_open l.text)) (bytes (following ls)) ≡ sights_behind (ends_in_comment left_open l.text) ls
        → walk (mode left_open) (bytes (line_marks l ++ following ls)) ≡ line_sights left_open l.text ++ sights_behind (ends_in_comment left_open l.text) ls
    further left_open below =
        ap (walk (mode left_open)) (bytes_line l (following ls)) ∙ (line_goes_on left_open l.text (bytes (following ls)) (no_end_of l.text (All-head OfLine l ls h)) (following_ends ls)).is
        ∙ ap (λ s. line_sights left_open l.text ++ s) below

    by : (left_open : Bool) → walk (mode (ends_in_comment left_open l.text)) (bytes (following ls)) ≡ sights_behind (ends_in_comment left_open l.text) ls
        → walk (mode left_open) (10 ∷ bytes (line_marks l ++ following ls)) ≡ sights_behind left_open (l ∷ ls)
    by true below = ap (λ s. InComment ∷ s) (further true below)
    by false below = ap (λ s. Elsewhere ∷ s) (further false below)

pub lines_walk : (ls : List Line) → All OfLine ls → walk between (bytes (joined ls)) ≡ sights_of ls
unfolding joined
lines_walk [] h = refl
lines_walk (l ∷ ls) h =
    ap (walk between) (bytes_line l (following ls)) ∙ (line_goes_on false l.text (bytes (following ls)) (no_end_of l.text (All-head OfLine l ls h)) (following_ends ls)).is
    ∙ ap (λ s. line_sights false l.text ++ s) (following_walk ls (ends_in_comment false l.text) (All-tail OfLine l ls h))
