-- The state as the bytes' meaning has it, and what names lead to on both sides.
use Rattle.std.proofs.Common.{◌≡◌, ℕ, ◌+◌, ◌<◌, ◌^◌, Bool, suc, List, [], ◌∷◌, length, Option, Some, None, refl, sym, ap, ◌∙◌, subst}
use Rattle.acpi_values.specs.declared.width.Width.{Width}
use Rattle.acpi_values.specs.Paths.{AbsolutePath}
use Rattle.acpi_state.specs.Objects.{Object, Names, as_declared}
use Rattle.acpi_state.specs.Finds.{object_at, first_there, reached, reach}
use Rattle.acpi_state.specs.State.{State}
use Rattle.acpi_state.specs.Outcomes.{Result, Done, Stopped, map_result, Outcome, Run, done, next, choose}
use Rattle.acpi_state.proofs.Readings.{Any}
use Rattle.asl_tree.specs.declared.path.Path.{Path}
use Rattle.asl_tree.specs.Tree.{Trees}
use Rattle.asl_tree.specs.Names.{Known, AliasTo, is_known, kind_at, end_by, end_of, search_path, candidates, first_of, denoted}
use Rattle.asl_meaning.specs.Meaning as S
use Rattle.asl_meaning.proofs.Searches.{first_of_none, search_of_one}
use Rattle.asl_meaning.proofs.Agreements.{Has, Reading, IsKnownAs, AreKnownAs, LeadsTo, Reached, reaches, all_known, right_state, Agree, agree_then, agree_existing, agree_look, agree_so}
use Rattle.aml_meaning.specs.Encoded.{encoded_all}
use Rattle.aml_meaning.specs.ByteMeaning as B
use Rattle.aml_meaning.specs.ByteMeaning.{ByteRun, followed_by}
use Rattle.aml_sessions.specs.Ready.{AtMostOne, AreReady, Denotes, IsSought, EndsIn}

-- what a table's terms are run and written under
pub record Setting : Type 0 where
  pub width : Width
  pub known : Known
  pub short : Bool

-- a body is ready, and no package in it is too long
pub record IsKept (given : Setting) (path : AbsolutePath) (body : Trees) : Type 0 where
  pub ready : AreReady ⊥ given.known body path
  pub fits : length (encoded_all given.width given.short body) + 4 < 2 ^ 28

-- the other side keeps bodies as bytes
abbrev pub as_bytes : Setting → Reading (List ℕ)
as_bytes given = record { IsNamed = IsKnownAs given.known; convert = λ path body. encoded_all given.width given.short body; Kept = IsKept given }

-- where the path that a name denotes among the known ones is there now
abbrev pub denoted_there : Known → Path → AbsolutePath → Names → Option AbsolutePath
denoted_there known name scope names = choose (denoted (is_known known) name scope) None (λ path. first_there names (path ∷ []))

module _ (given : Setting) where
  -- with the bytes that follow
  pub agree_followed : {A C : Type 0} {P : A → Type 0} {c : A → C} {m : Run Trees A} {m' : ByteRun C} (rest : List ℕ) → Agree (as_bytes given) P c m m' → Agree (as_bytes given) P (λ a. (c a, rest)) m (followed_by rest m')
  agree_followed {A} {C} {P = P} {c = c} rest h = record { same = record { by = λ j fine. let g = h.same.by j fine in record { result = g.result; end = g.end; holds = g.holds; left_is = g.left_is; right_is = ap (λ (o : Outcome (List ℕ) C). next {C = C × List ℕ} o.result o.state (λ a. done (a, rest))) g.right_is ∙ both g.result g.end } } }
    where
      both : (r : Result A) (t : State Trees) → next {C = C × List ℕ} (map_result c r) (right_state (as_bytes given) t) (λ a. done (a, rest)) ≡ record { result = map_result (λ a. (c a, rest)) r; state = right_state (as_bytes given) t }
      both (Done a) t = refl
      both (Stopped x) t = refl

  -- a name that is spelled for a path is found there on both sides
  pub agree_find : (name : Path) (scope path : AbsolutePath) → Denotes given.known name scope path → Agree (as_bytes given) (λ p. p ≡ path) (λ p. p) (S.find given.known name scope) (B.find name scope)
  agree_find name scope path denotes =
      agree_existing (as_bytes given) (λ p. p ≡ path) (denoted_there given.known name scope) (λ names. first_there names (search_path name scope)) all
    where
      is_here : (names : Names) → Has (λ p. p ≡ path) (first_there names (path ∷ []))
      is_here names = by_object (object_at names path)
        where
          by_object : (o : Option Object) → Has (λ p. p ≡ path) (choose o None (λ object. Some path))
          by_object None = tt
          by_object (Some object) = refl

      all : (names : Names) → AreKnownAs given.known names → (denoted_there given.known name scope names ≡ first_there names (search_path name scope)) × Has (λ p. p ≡ path) (denoted_there given.known name scope names)
      all names h =
          let source : denoted_there given.known name scope names ≡ first_there names (path ∷ []) = ap (λ paths. choose (first_of paths) None (λ path. first_there names (path ∷ []))) denotes.only in
          (source ∙ sym (search_of_one (is_known given.known) names (all_known given.known names h) (search_path name scope) path denotes.only), subst (Has (λ p. p ≡ path)) (sym source) (is_here names))

  pub agree_reach : (path : AbsolutePath) → Agree (as_bytes given) (Reached given.known path) (λ found. found) (reach path) (reach path)
  agree_reach path =
      agree_existing (as_bytes given) (Reached given.known path) (λ names. reached names path) (λ names. reached names path) (λ names h. (refl, reaches given.known names path h))

  -- what it leads to is the same
  pub agree_found : (name : Path) (scope path : AbsolutePath) → Denotes given.known name scope path → Agree (as_bytes given) (Reached given.known path) (λ e. e) (S.found given.known name scope) (B.found name scope)
  agree_found name scope path denotes =
      agree_then (as_bytes given) (Reached given.known path) (λ e. e) _ (agree_find name scope path denotes)
      (λ p is. agree_so (as_bytes given) (Reached given.known path) (λ e r. subst (λ q. Reached given.known q e) is r) (agree_reach p))

  -- also of a name that may lead nowhere
  pub agree_sought : (name : Path) (scope : AbsolutePath) → IsSought given.known name scope → Agree (as_bytes given) Any (λ o. o) (S.sought given.known name scope) (B.sought name scope)
  agree_sought name scope sought =
      agree_look (as_bytes given) Any (λ names. choose (denoted_there given.known name scope names) None (reached names)) (λ names. choose (first_there names (search_path name scope)) None (reached names)) (λ names h. (ap (λ o. choose o None (reached names)) (same names h), tt))
    where
      same : (names : Names) → AreKnownAs given.known names → denoted_there given.known name scope names ≡ first_there names (search_path name scope)
      same names h = by_candidates (candidates (is_known given.known) (search_path name scope)) refl sought.few
        where
          Now : List AbsolutePath → Option AbsolutePath
          Now paths = choose (first_of paths) None (λ path. first_there names (path ∷ []))

          by_candidates : (paths : List AbsolutePath) → candidates (is_known given.known) (search_path name scope) ≡ paths → AtMostOne paths → denoted_there given.known name scope names ≡ first_there names (search_path name scope)
          by_candidates [] e few = ap Now e ∙ sym (first_of_none (is_known given.known) names (all_known given.known names h) (search_path name scope) e)
          by_candidates (path ∷ []) e few = ap Now e ∙ sym (search_of_one (is_known given.known) names (all_known given.known names h) (search_path name scope) path e)
          by_candidates (path ∷ other ∷ others) e few = absurd few

-- a path ends in one way only
pub reached_ends : (known : Known) (P : Object → Type 0) (path : AbsolutePath) (found : AbsolutePath × Object) → EndsIn known P path → Reached known path found → P (as_declared found.1)
reached_ends known P path found all reached = all reached.steps found.0 (as_declared found.1) reached.ends

-- an alias of a path that is reached
pub alias_leads : (known : Known) (path source : AbsolutePath) (found : AbsolutePath × Object) → kind_at known path ≡ Some (AliasTo (Some source)) → Reached known source found → LeadsTo known path found.0
alias_leads known path source found is reached =
    record { source = Some source; kind = is; steps = suc reached.steps; object = as_declared found.1; ends = ap (λ k. end_by k path (end_of known reached.steps)) is ∙ reached.ends }
