-- A line with no quote asks for no file.
use Rattle.std.proofs.Common.{◌≡◌, ℕ, zero, suc, Bool, true, false, cond, List, [], ◌∷◌, ◌++◌, length, drop, replicate, Option, Some, None, refl, sym, ap, ◌∙◌, arith}
use Rattle.std.specs.Prelude.{◌==◌, ◌&&◌, not, codes}
use Rattle.std.specs.Option.{option_and_then}
use Rattle.std.specs.List.{flat_map, list_all}
use Rattle.std.specs.Str.{bytes_eq}
use Rattle.std.proofs.lemmas.List.Folds.{list_all-append}
use Rattle.asl_fragments.specs.declared.fragment.FragmentKind.{FragmentKind}
use Rattle.asl_fragments.specs.declared.fragment.FragmentKind.TheVariants.{Identifier, Number, Quoted, Comment, Other}
use Rattle.asl_fragments.specs.Fragments.{Piece, blanked_by, blanked, fragments, is_plain, without_comments}
use Rattle.asl_fragments.proofs.Joined.{fragments_joined}
use Rattle.asl_directives.specs.Words.{past_blanks, blanks_before, behind_word, word_of, behind_mark, behind_first, split_at_mark}
use Rattle.asl_directives.specs.Forms.{lower, in_brackets, with_bracket_behind, include_line}
use Rattle.asl_preprocess.specs.Cuts.{IsPlainBelow}

abbrev no_quote : ℕ → Bool
no_quote b = not (b == 34)

-- ---- tests of all bytes

both : (a b : Bool) → (a && b) ≡ true → (a ≡ true) × (b ≡ true)
both true b e = (refl, e)
both false b e = absurd cc

joined : (a b : Bool) → a ≡ true → b ≡ true → (a && b) ≡ true
joined true b e f = f
joined false b e f = absurd cc

all_drop : (p : ℕ → Bool) (n : ℕ) (xs : List ℕ) → list_all p xs ≡ true → list_all p (drop n xs) ≡ true
all_drop p zero xs h = h
all_drop p (suc n) [] h = refl
all_drop p (suc n) (x ∷ xs) h = all_drop p n xs (both (p x) (list_all p xs) h).1

all_replicate : (p : ℕ → Bool) (n x : ℕ) → p x ≡ true → list_all p (replicate n x) ≡ true
all_replicate p zero x h = refl
all_replicate p (suc n) x h = joined (p x) (list_all p (replicate n x)) h (all_replicate p n x h)

all_both : (p : ℕ → Bool) (xs ys : List ℕ) → list_all p xs ≡ true → list_all p ys ≡ true → list_all p (xs ++ ys) ≡ true
all_both p xs ys h k = list_all-append p xs ys ∙ joined (list_all p xs) (list_all p ys) h k

-- ---- without comments

all_blanked_by : (kind : FragmentKind) (text : List ℕ) → list_all no_quote text ≡ true → list_all no_quote (blanked_by kind text) ≡ true
all_blanked_by Comment text h = all_replicate no_quote (length text) 32 refl
all_blanked_by Identifier text h = h
all_blanked_by Number text h = h
all_blanked_by Quoted text h = h
all_blanked_by Other text h = h

all_blanked : (ps : List Piece) → list_all no_quote (flat_map (λ (p : Piece). p.text) ps) ≡ true → list_all no_quote (flat_map blanked ps) ≡ true
all_blanked [] h = refl
all_blanked (p ∷ ps) h =
    let parts = both (list_all no_quote p.text) (list_all no_quote (flat_map (λ (q : Piece). q.text) ps)) (sym (list_all-append no_quote p.text (flat_map (λ (q : Piece). q.text) ps)) ∙ h) in
    all_both no_quote (blanked_by p.kind p.text) (flat_map blanked ps) (all_blanked_by p.kind p.text parts.0) (all_blanked ps parts.1)

no_quotes_left : (text : List ℕ) → list_all no_quote text ≡ true → list_all no_quote (without_comments false text) ≡ true
unfolding without_comments
no_quotes_left text h = all_blanked (fragments false text) (ap (list_all no_quote) (fragments_joined false text) ∙ h)

-- ---- no string, so no name of a file

no_string : (text : List ℕ) → list_all no_quote text ≡ true → behind_mark 34 text ≡ None
no_string text h = by (past_blanks text) (all_drop no_quote (blanks_before text) text h)
  where
    none : (b : Bool) (cs : List ℕ) → not b ≡ true → cond b (Some cs) None ≡ None
    none true cs e = absurd cc
    none false cs e = refl

    by : (rest : List ℕ) → list_all no_quote rest ≡ true → behind_first 34 rest ≡ None
    by [] e = refl
    by (c ∷ cs) e = none (c == 34) cs (both (no_quote c) (list_all no_quote cs) e).0

-- what `in_brackets` reads behind the bracket
abbrev string_in : List ℕ → Option (List ℕ)
string_in rest = option_and_then (λ string. option_and_then with_bracket_behind (split_at_mark 34 string)) (behind_mark 34 rest)

no_brackets : (text : List ℕ) → list_all no_quote text ≡ true → in_brackets text ≡ None
no_brackets text h = by (past_blanks text) (all_drop no_quote (blanks_before text) text h)
  where
    at : (b : Bool) (cs : List ℕ) → behind_mark 34 cs ≡ None → option_and_then string_in (cond b (Some cs) None) ≡ None
    at true cs e = ap (option_and_then (λ string. option_and_then with_bracket_behind (split_at_mark 34 string))) e
    at false cs e = refl

    by : (rest : List ℕ) → list_all no_quote rest ≡ true → option_and_then string_in (behind_first 40 rest) ≡ None
    by [] e = refl
    by (c ∷ cs) e = at (c == 40) cs (no_string cs (both (no_quote c) (list_all no_quote cs) e).1)

no_include : (text : List ℕ) → list_all no_quote text ≡ true → include_line text ≡ None
no_include text h =
    let rest : List ℕ = past_blanks text in
    at (bytes_eq (lower (word_of rest)) (codes "include")) (in_brackets (behind_word rest)) (no_brackets (behind_word rest) (all_drop no_quote _ rest (all_drop no_quote (blanks_before text) text h)))
  where
    at : (b : Bool) (o : Option (List ℕ)) → o ≡ None → cond b o None ≡ None
    at true o e = e
    at false o e = refl

-- ---- plain lines

plain_has_none : (b : ℕ) → is_plain b ≡ true → no_quote b ≡ true
plain_has_none b e = (both (not (b == 34)) (not (b == 47)) e).0

all_without : (text : List ℕ) → IsPlainBelow (length text) text → list_all no_quote text ≡ true
all_without [] h = refl
all_without (b ∷ bs) h = joined (no_quote b) (list_all no_quote bs) (plain_has_none b (h 0 (omega arith))) (all_without bs (λ k lt. h (suc k) (omega arith)))

pub plain_asks_nothing : (text : List ℕ) → IsPlainBelow (length text) text → include_line (without_comments false text) ≡ None
plain_asks_nothing text h = no_include (without_comments false text) (no_quotes_left text (all_without text h))
