-- What is told of a mention with and without some names.
use Rattle.std.proofs.Common.{◌≡◌, ℕ, Bool, true, false, List, [], ◌∷◌, ◌++◌, length, Option, Some, None, refl, sym, ap, ◌∙◌}
use Rattle.std.specs.Prelude.{if◌then◌else◌, is_some, not, nat_le, nat_eq, ◌||◌, ◌&&◌}
use Rattle.acpi_values.specs.Paths.{AbsolutePath, is_same_path}
use Rattle.acpi_state.specs.Objects.{lookup}
use Rattle.acpi_state.specs.Outcomes.{choose}
use Rattle.asl_tree.specs.declared.path.Path.{Path}
use Rattle.asl_tree.specs.Names.{declared_path, denoted}
use Rattle.asl_tree.specs.Tree.{At}
use Rattle.asl_meaning.specs.Declarations.{ExternalType, Declarations, in_root, is_named}
use Rattle.acpi_names.specs.Errors.{NameError, Twice, DeclaredHere, Missing, NoContainer, LeavesRoot, Differs, TooLong, WrongCount, WrongKind, Asked, Anything, AnObject, AValue, AMutex, AnEvent, AUnit, ARegion, unless, Whole, step_errors}
use Rattle.acpi_names.specs.Errors.{length_errors, is_new, has_parent, agrees_with, final, is_container, takes_none, takes, is_mutex, is_event, is_unit, is_region, declared_errors, external_errors, use_errors, call_errors, name_end, asked_types}
use Rattle.acpi_names.specs.Mentions.{Mention, mention_errors, mention_types, opening_errors}
use Rattle.unused_names.specs.Unused.{Twin, TwinUse, TwinRegion, TwinSought, TwinCalled, TwinDeclares, TwinOutside, TwinOpens, Stays, is_gone, is_below, Spares, SparesAll}
use Rattle.unused_names.proofs.Less.{Less}
use Rattle.unused_names.proofs.Ends.{Lessened, left_named, denotes_same, name_end_same, final_same}

pub left_none : {A : Type 0} (xs ys : List A) → xs ++ ys ≡ [] → xs ≡ []
left_none [] ys e = refl
left_none (x ∷ xs) ys e = absurd cc

pub right_none : {A : Type 0} (xs ys : List A) → xs ++ ys ≡ [] → ys ≡ []
right_none [] ys e = e
right_none (x ∷ xs) ys e = absurd cc

pub none_both : {A : Type 0} {xs ys : List A} → xs ≡ [] → ys ≡ [] → xs ++ ys ≡ []
none_both {ys = ys} h k = ap (λ zs. zs ++ ys) h ∙ k

unless_true : (b : Bool) (e : NameError) → unless b e ≡ [] → b ≡ true
unless_true true e h = refl
unless_true false e h = absurd cc

unless_none : (b : Bool) (e : NameError) → b ≡ true → unless b e ≡ []
unless_none b e h = ap (λ c. unless c e) h

-- the same test at another node
moved : (b c : Bool) (e f : NameError) → c ≡ b → unless b e ≡ [] → unless c f ≡ []
moved b c e f same h = unless_none c f (same ∙ unless_true b e h)

-- an External that may be called and does not say how many arguments it takes
abbrev is_open : Option ExternalType → Bool
is_open None = false
is_open (Some e) = not (is_some e.parameters) && (nat_eq e.type 0 || nat_eq e.type 8)

abbrev is_first : ℕ → Option ℕ → Bool
is_first n None = true
is_first n (Some m) = nat_eq m n

abbrev call_faults : ℕ → Option ExternalType → Option ℕ → NameError → List NameError
call_faults n o m e = if is_open o then unless (is_first n m) e else []

faults_moved : (n : ℕ) (o : Option ExternalType) (m : Option ℕ) (e f : NameError) → call_faults n o m e ≡ [] → call_faults n o m f ≡ []
faults_moved n o m e f h = by_open (is_open o) h
  where
    by_open : (b : Bool) → (if b then unless (is_first n m) e else []) ≡ [] → (if b then unless (is_first n m) f else []) ≡ []
    by_open true k = moved (is_first n m) (is_first n m) e f refl k
    by_open false k = refl

-- a Scope that opens a path
abbrev opened_faults : Whole → Path → AbsolutePath → At → At → AbsolutePath → List NameError
opened_faults v name inner here at path = unless (is_same_path path inner) (Missing at name) ++ unless (is_container (final v.known path)) (NoContainer here name)

module _ (gone : AbsolutePath → Bool) (w w' : Whole) (lessened : Lessened gone w w') where
  abbrev has : AbsolutePath → Bool
  has = is_named w.all

  abbrev has' : AbsolutePath → Bool
  has' = is_named w'.all

  use_moved : (at to : At) (name : Path) (scope : AbsolutePath) → Spares gone has name scope → use_errors w at name scope ≡ [] → use_errors w' to name scope ≡ []
  use_moved at to name scope spares h =
      none_both (moved (nat_le name.up (length scope)) (nat_le name.up (length scope)) (LeavesRoot at name) (LeavesRoot to name) refl (left_none (step_errors at name scope) _ h))
      (moved (is_some (denoted has name scope)) (is_some (denoted has' name scope)) (Missing at name) (Missing to name) (ap is_some (denotes_same gone w w' lessened name scope spares)) (right_none (step_errors at name scope) _ h))

  call_moved : (at to : At) (name : Path) (n : ℕ) (scope : AbsolutePath) → Spares gone has name scope → call_errors w at name n scope ≡ [] → call_errors w' to name n scope ≡ []
  call_moved at to name n scope spares h = by_path (denoted has name scope) refl
    where
      by_path : (o : Option AbsolutePath) → denoted has name scope ≡ o → call_errors w' to name n scope ≡ []
      by_path None e = ap (λ o. choose o [] (λ path. call_faults n (lookup w'.all.external path) (lookup w'.calls path) (Differs to name))) (denotes_same gone w w' lessened name scope spares ∙ e)
      by_path (Some q) e =
          ap (λ o. choose o [] (λ path. call_faults n (lookup w'.all.external path) (lookup w'.calls path) (Differs to name))) (denotes_same gone w w' lessened name scope spares ∙ e)
          ∙ ap (λ es. call_faults n (lookup es q) (lookup w'.calls q) (Differs to name)) lessened.all.external
          ∙ ap (λ cs. call_faults n (lookup w.all.external q) (lookup cs q) (Differs to name)) lessened.calls
          ∙ faults_moved n (lookup w.all.external q) (lookup w.calls q) (Differs at name) (Differs to name)
          (sym (ap (λ o. choose o [] (λ path. call_faults n (lookup w.all.external path) (lookup w.calls path) (Differs at name))) e) ∙ h)

  parent_same : (path : AbsolutePath) → is_below gone has path ≡ false → has_parent w'.all path ≡ has_parent w.all path
  parent_same [] h = refl
  parent_same (seg ∷ outer) h = left_named gone w w' lessened outer ∙ ap (λ b. if b then false else has outer) h

  declared_moved : (at to : At) (name : Path) (scope : AbsolutePath) (d d' : Declarations) → Less gone d d' → gone (declared_path name scope) ≡ false → is_below gone has (declared_path name scope) ≡ false → declared_errors w at name scope d ≡ [] → declared_errors w' to name scope d' ≡ []
  declared_moved at to name scope d d' less stays below h =
      let path : AbsolutePath = declared_path name scope in
      let new = left_none (unless (is_new d path) (Twice at path)) _ h in
      let rest = right_none (unless (is_new d path) (Twice at path)) _ h in
      let steps = left_none (step_errors at name scope) _ rest in
      let more = right_none (step_errors at name scope) _ rest in
      none_both
      (moved (is_new d path) (is_new d' path) (Twice at path) (Twice to path) (ap (λ o. not (in_root path || is_some o)) (less.declared path ∙ ap (λ b. if b then None else lookup d.declared path) stays)) new)
      (none_both (moved (nat_le name.up (length scope)) (nat_le name.up (length scope)) (LeavesRoot at name) (LeavesRoot to name) refl steps)
      (none_both (moved (has_parent w.all path) (has_parent w'.all path) (Missing at name) (Missing to name) (parent_same path below) (left_none (unless (has_parent w.all path) (Missing at name)) _ more))
      (moved (nat_le (length path) 255) (nat_le (length path) 255) (TooLong at name) (TooLong to name) refl (right_none (unless (has_parent w.all path) (Missing at name)) _ more))))

  undeclared_left : (path : AbsolutePath) → not (is_some (lookup w.all.declared path)) ≡ true → not (is_some (lookup w'.all.declared path)) ≡ true
  undeclared_left path h = ap (λ o. not (is_some o)) (lessened.all.declared path) ∙ by_gone (gone path)
    where
      by_gone : (b : Bool) → not (is_some (if b then None else lookup w.all.declared path)) ≡ true
      by_gone true = refl
      by_gone false = h

  outside_moved : (here there at to : At) (name : Path) (type : ExternalType) (scope : AbsolutePath) (d d' : Declarations) → Less gone d d' → external_errors w here at name type scope d ≡ [] → external_errors w' there to name type scope d' ≡ []
  outside_moved here there at to name type scope d d' less h =
      let path : AbsolutePath = declared_path name scope in
      let own = not (is_some (lookup w.all.declared path)) in
      let first = left_none (unless own (DeclaredHere at path)) _ h in
      let rest = right_none (unless own (DeclaredHere at path)) _ h in
      let steps = left_none (step_errors at name scope) _ rest in
      let more = right_none (step_errors at name scope) _ rest in
      none_both (unless_none (not (is_some (lookup w'.all.declared path))) (DeclaredHere to path) (undeclared_left path (unless_true own (DeclaredHere at path) first)))
      (none_both (moved (nat_le name.up (length scope)) (nat_le name.up (length scope)) (LeavesRoot at name) (LeavesRoot to name) refl steps)
      (none_both (moved (nat_le (length path) 255) (nat_le (length path) 255) (TooLong at name) (TooLong to name) refl (left_none (length_errors at name path) _ more))
      (moved (agrees_with (lookup d.external path) type) (agrees_with (lookup d'.external path) type) (Differs here name) (Differs there name) (ap (λ es. agrees_with (lookup es path) type) less.external) (right_none (length_errors at name path) _ more))))

  opening_moved : (here there at to : At) (name : Path) (scope inner : AbsolutePath) → Spares gone has name scope → opening_errors w here at name scope inner ≡ [] → opening_errors w' there to name scope inner ≡ []
  opening_moved here there at to name scope inner spares h = by_path (denoted has name scope) refl spares
    where
      by_path : (o : Option AbsolutePath) → denoted has name scope ≡ o → is_gone gone has o ≡ false → opening_errors w' there to name scope inner ≡ []
      by_path None e k = ap (λ o. choose o [] (opened_faults w' name inner there to)) (denotes_same gone w w' lessened name scope spares ∙ e)
      by_path (Some q) e k =
          let told : opened_faults w name inner here at q ≡ [] = sym (ap (λ o. choose o [] (opened_faults w name inner here at)) e) ∙ h in
          ap (λ o. choose o [] (opened_faults w' name inner there to)) (denotes_same gone w w' lessened name scope spares ∙ e)
          ∙ none_both (moved (is_same_path q inner) (is_same_path q inner) (Missing at name) (Missing to name) refl (left_none (unless (is_same_path q inner) (Missing at name)) _ told))
          (moved (is_container (final w.known q)) (is_container (final w'.known q)) (NoContainer here name) (NoContainer there name) (ap is_container (final_same gone w w' lessened q k)) (right_none (unless (is_same_path q inner) (Missing at name)) _ told))

  pub errors_moved : {m other : Mention} → Twin m other → (d d' : Declarations) → Less gone d d' → Stays gone m → SparesAll gone has m → mention_errors w m d ≡ [] → mention_errors w' other d' ≡ []
  errors_moved (TwinUse asked at to name scope) d d' less stays spares h = use_moved at to name scope spares h
  errors_moved (TwinRegion field other at to name scope) d d' less stays spares h = use_moved at to name scope spares h
  errors_moved (TwinSought at to name scope) d d' less stays spares h = moved (nat_le name.up (length scope)) (nat_le name.up (length scope)) (LeavesRoot at name) (LeavesRoot to name) refl h
  errors_moved (TwinCalled asked at to name args scope) d d' less stays spares h =
      none_both (use_moved at to name scope spares (left_none (use_errors w at name scope) _ h)) (call_moved at to name args scope spares (right_none (use_errors w at name scope) _ h))
  errors_moved (TwinDeclares at to name as' scope) d d' less stays spares h = declared_moved at to name scope d d' less stays spares.0 h
  errors_moved (TwinOutside here there at to name type scope) d d' less stays spares h = outside_moved here there at to name type scope d d' less h
  errors_moved (TwinOpens here there at to name scope inner) d d' less stays spares h =
      none_both (use_moved at to name scope spares (left_none (use_errors w at name scope) _ h)) (opening_moved here there at to name scope inner spares (right_none (use_errors w at name scope) _ h))

  -- ---- kinds

  region_moved : (field other at to : At) (name : Path) (scope : AbsolutePath) → Spares gone has name scope → asked_types w (ARegion field) at name scope ≡ [] → asked_types w' (ARegion other) to name scope ≡ []
  region_moved field other at to name scope spares h =
      moved (is_region (name_end w name scope)) (is_region (name_end w' name scope)) (WrongKind at name) (WrongKind to name) (ap is_region (name_end_same gone w w' lessened name scope spares)) h

  asked_moved : (asked : Asked) (at to : At) (name : Path) (scope : AbsolutePath) → Spares gone has name scope → asked_types w asked at name scope ≡ [] → asked_types w' asked to name scope ≡ []
  asked_moved Anything at to name scope spares h = refl
  asked_moved AnObject at to name scope spares h = refl
  asked_moved AValue at to name scope spares h =
      moved (takes_none (name_end w name scope)) (takes_none (name_end w' name scope)) (WrongCount at name) (WrongCount to name) (ap takes_none (name_end_same gone w w' lessened name scope spares)) h
  asked_moved AMutex at to name scope spares h =
      moved (is_mutex (name_end w name scope)) (is_mutex (name_end w' name scope)) (WrongKind at name) (WrongKind to name) (ap is_mutex (name_end_same gone w w' lessened name scope spares)) h
  asked_moved AnEvent at to name scope spares h =
      moved (is_event (name_end w name scope)) (is_event (name_end w' name scope)) (WrongKind at name) (WrongKind to name) (ap is_event (name_end_same gone w w' lessened name scope spares)) h
  asked_moved AUnit at to name scope spares h =
      moved (is_unit (name_end w name scope)) (is_unit (name_end w' name scope)) (WrongKind at name) (WrongKind to name) (ap is_unit (name_end_same gone w w' lessened name scope spares)) h
  asked_moved (ARegion field) at to name scope spares h = region_moved field field at to name scope spares h

  pub types_moved : {m other : Mention} → Twin m other → SparesAll gone has m → mention_types w m ≡ [] → mention_types w' other ≡ []
  types_moved (TwinUse asked at to name scope) spares h = asked_moved asked at to name scope spares h
  types_moved (TwinRegion field other at to name scope) spares h = region_moved field other at to name scope spares h
  types_moved (TwinSought at to name scope) spares h = refl
  types_moved (TwinCalled true at to name args scope) spares h =
      moved (takes args (name_end w name scope)) (takes args (name_end w' name scope)) (WrongCount at name) (WrongCount to name) (ap (takes args) (name_end_same gone w w' lessened name scope spares)) h
  types_moved (TwinCalled false at to name args scope) spares h = refl
  types_moved (TwinDeclares at to name as' scope) spares h = refl
  types_moved (TwinOutside here there at to name type scope) spares h = refl
  types_moved (TwinOpens here there at to name scope inner) spares h = refl
