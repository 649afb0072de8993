-- What the names at nodes denote, one mention after another.
use Rattle.std.proofs.Common.{◌≡◌, ℕ, zero, suc, ◌+◌, ◌<◌, ◌≤◌, Bool, true, false, List, [], ◌∷◌, ◌++◌, length, get_or, set, take, map, Option, Some, None, refl, sym, ap, ◌∙◌, arith}
use Rattle.std.specs.Prelude.{nat_eq, if◌then◌else◌}
use Rattle.std.proofs.lemmas.Bool.{eqb-true}
use Rattle.std.proofs.lemmas.Bool.Decides.{nat_tests}
use Rattle.std.proofs.lemmas.List.{take_all, length-map, get_or-set_same, get_or-set_other}
use Rattle.acpi_values.specs.Paths.{AbsolutePath}
use Rattle.acpi_state.specs.Outcomes.{choose}
use Rattle.asl_tree.specs.Names.{denoted}
use Rattle.acpi_names.specs.Mentions as M
use Rattle.acpi_names.specs.Paths.{path_with}
use Rattle.acpi_names.specs.Shown.{shown, all_shown}
use Rattle.acpi_names.specs.declared.mention.Mention.{Mention}
use Rattle.name_entries.specs.Uses.{Use, used_by, uses_after, use_at, Denotes}

-- a write to the table
pub put_there : (table now : List (Option ℕ)) (number n : ℕ) (target : Option ℕ) → number < length now → ((m : ℕ) → get_or now m None ≡ get_or table m None) → get_or (set now number target) n None ≡ (if nat_eq number n then target else get_or table n None)
put_there table now number n target lt same = by_place (nat_eq number n) refl
  where
    by_place : (c : Bool) → nat_eq number n ≡ c → get_or (set now number target) n None ≡ (if c then target else get_or table n None)
    by_place true c = ap (λ k. get_or (set now number target) k None) (sym (eqb-true number n c)) ∙ get_or-set_same now number target None lt
    by_place false c = get_or-set_other now number n target None (grind (arith, nat_tests, c)) ∙ same n

-- nothing more is read of a table with no entry behind
pub none_behind : (xs : List (Option ℕ)) (n : ℕ) → get_or (xs ++ None ∷ []) n None ≡ get_or xs n None
none_behind [] zero = refl
none_behind [] (suc n) = refl
none_behind (x ∷ xs) zero = refl
none_behind (x ∷ xs) (suc n) = none_behind xs n

-- what is put says one use more
pub put_use : (paths : List AbsolutePath) (has : AbsolutePath → Bool) (table new : List (Option ℕ)) (target : Option ℕ) (u : Use) (uses : List Use) → ((n : ℕ) → get_or new n None ≡ (if nat_eq u.node n then target else get_or table n None)) → path_with paths target ≡ denoted has u.name u.scope → Denotes paths has table uses → Denotes paths has new (u ∷ uses)
put_use paths has table new target u uses e h before n = ap (path_with paths) (e n) ∙ by_place (nat_eq u.node n)
  where
    by_place : (c : Bool) → path_with paths (if c then target else get_or table n None) ≡ choose (if c then Some u else use_at uses n) None (λ u. denoted has u.name u.scope)
    by_place true = h
    by_place false = before n

-- one mention more
uses_append : (ms : List M.Mention) (m : M.Mention) (uses : List Use) → uses_after (ms ++ m ∷ []) uses ≡ used_by m ++ uses_after ms uses
uses_append [] m uses = refl
uses_append (x ∷ ms) m uses = uses_append ms m (used_by x ++ uses)

map_taken : {A B : Type 0} (f : A → B) (xs : List A) (i : ℕ) (x : A) → i < length xs → x ≡ get_or xs i x → take (suc i) (map f xs) ≡ take i (map f xs) ++ f x ∷ []
map_taken f [] i x lt e = absurd (omega (arith, lt))
map_taken f (y ∷ xs) zero x lt e = ap (λ z. f z ∷ []) (sym e)
map_taken f (y ∷ xs) (suc i) x lt e = ap (λ zs. f y ∷ zs) (map_taken f xs i x (omega (arith, lt)) e)

pub uses_next : (paths : List AbsolutePath) (mentions : List Mention) (i : ℕ) (m : Mention) → i < length mentions → m ≡ get_or mentions i m → uses_after (take (i + 1) (all_shown paths mentions)) [] ≡ used_by (shown paths m) ++ uses_after (take i (all_shown paths mentions)) []
uses_next paths mentions i m lt e =
    let next : i + 1 ≡ suc i = omega arith in
    ap (λ k. uses_after (take k (all_shown paths mentions)) []) next ∙ ap (λ ms. uses_after ms []) (map_taken (shown paths) mentions i m lt e)
    ∙ uses_append (take i (all_shown paths mentions)) (shown paths m) []

pub uses_whole : (paths : List AbsolutePath) (mentions : List Mention) (i : ℕ) → length mentions ≤ i → uses_after (take i (all_shown paths mentions)) [] ≡ uses_after (all_shown paths mentions) []
uses_whole paths mentions i le = ap (λ ms. uses_after ms []) (take_all i (all_shown paths mentions) (omega (arith, le, length-map mentions (shown paths))))
