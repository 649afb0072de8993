-- What stands under one name, and then under the others.
use Rattle.std.proofs.Common.{◌≡◌, ℕ, zero, suc, ◌+◌, ◌<◌, ◌≤◌, true, false, cond, List, [], ◌∷◌, length, drop, get_or, Option, Some, None, refl, ap, sym, ◌∙◌, arith}
use Rattle.std.specs.Prelude.{nat_lt}
use Rattle.std.specs.Str.{is_utf8}
use Rattle.iasl_ports.specs.Gained.{Named}
use Rattle.iasl_ports.specs.Fetched.{find_file, most_bytes}
use Rattle.asl_preprocess.specs.declared.search.SearchResult.{SearchResult as SearchResultByCode}
use Rattle.asl_preprocess.specs.Search.{SearchResult, Missing, Large, Whole, found_or, search_first, search}
use Rattle.asl_preprocess.specs.Searching.{found_or_rest}

-- a size that is within the limit, and one above it, as tests
pub within_is : (n : ℕ) → n ≤ most_bytes → nat_lt most_bytes n ≡ false
within_is n h = grind arith

pub above_is : (n : ℕ) → most_bytes < n → nat_lt most_bytes n ≡ true
above_is n h = grind arith

pub first_whole : (told : List Named) (name bytes : List ℕ) (rest : SearchResult) → is_utf8 name ≡ true → find_file told name ≡ Some bytes → length bytes ≤ most_bytes → Whole name bytes ≡ search_first told name rest
first_whole told name bytes rest u f h =
    sym (ap (λ b. cond b (found_or name (find_file told name) rest) rest) u ∙ ap (λ o. found_or name o rest) f ∙ ap (λ b. cond b Large (Whole name bytes)) (within_is (length bytes) h))

pub first_large : (told : List Named) (name bytes : List ℕ) (rest : SearchResult) → is_utf8 name ≡ true → find_file told name ≡ Some bytes → most_bytes < length bytes → Large ≡ search_first told name rest
first_large told name bytes rest u f h =
    sym (ap (λ b. cond b (found_or name (find_file told name) rest) rest) u ∙ ap (λ o. found_or name o rest) f ∙ ap (λ b. cond b Large (Whole name bytes)) (above_is (length bytes) h))

pub first_other : (told : List Named) (name : List ℕ) (rest : SearchResult) → is_utf8 name ≡ false → rest ≡ search_first told name rest
first_other told name rest u = sym (ap (λ b. cond b (found_or name (find_file told name) rest) rest) u)

pub first_missing : (told : List Named) (name : List ℕ) (rest : SearchResult) → is_utf8 name ≡ true → find_file told name ≡ None → rest ≡ search_first told name rest
first_missing told name rest u f = sym (ap (λ b. cond b (found_or name (find_file told name) rest) rest) u ∙ ap (λ o. found_or name o rest) f)

-- the names that are left
pub search_none : (told : List Named) (names : List (List ℕ)) (i : ℕ) → length names ≤ i → search told (drop i names) ≡ Missing
search_none told [] zero h = refl
search_none told [] (suc i) h = refl
search_none told (n ∷ ns) zero h = absurd (omega arith)
search_none told (n ∷ ns) (suc i) h = search_none told ns i (omega arith)

pub search_step : (told : List Named) (names : List (List ℕ)) (i : ℕ) (name : List ℕ) (found : Option SearchResultByCode) → i < length names → name ≡ get_or names i name
    → ((rest : SearchResult) → found_or_rest found rest ≡ search_first told name rest) → search told (drop i names) ≡ found_or_rest found (search told (drop (i + 1) names))
search_step told [] i name found lt is h = absurd (omega arith)
search_step told (n ∷ ns) zero name found lt is h = ap (λ (m : List ℕ). search_first told m (search told ns)) (sym is) ∙ sym (h (search told ns))
search_step told (n ∷ ns) (suc i) name found lt is h =
    let e : suc (i + 1) ≡ suc i + 1 = omega arith in
    search_step told ns i name found (omega arith) is h ∙ ap (λ k. found_or_rest found (search told (drop k (n ∷ ns)))) e
