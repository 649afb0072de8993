-- The fields of descriptors that are used, mention after mention.
use Rattle.std.proofs.Common.{◌≡◌, ℕ, Bool, true, false, List, [], ◌∷◌, ◌++◌, map, get_or, append-nil, Option, Some, None, refl, sym, ap, ◌∙◌, subst, arith}
use Rattle.std.specs.Prelude.{is_some, not, if◌then◌else◌}
use Rattle.std.proofs.lemmas.List.{map-append}
use Rattle.acpi_values.specs.Paths.{NameSeg, AbsolutePath}
use Rattle.acpi_state.specs.Outcomes.{choose}
use Rattle.acpi_names.specs.Mentions.{Mention, Used', Sought, Called, Declares, Outside, Opens}
use Rattle.acpi_names.specs.Paths.{number_in}
use Rattle.acpi_names.specs.Tables.{entry_at, Tabled}
use Rattle.acpi_names.proofs.Numbers.{number_at}
use Rattle.asl_tree.specs.Names.{denoted, is_searched, declared_path}
use Rattle.asl_tree.specs.Tree.{At}
use Rattle.asl_tree.specs.declared.path.Path.{Path}
use Rattle.asl_tree.specs.declared.term.NamedDescriptor.{NamedDescriptor}
use Rattle.name_checks.specs.Messages.{message_of}
use Rattle.descriptor_checks.specs.Fields.{AreFields, field_place, numbers_in, paths_at}
use Rattle.descriptor_fields.specs.Nodes.{SaysAt, SaysMore}
use Rattle.descriptor_checks.specs.Resolved.{field_at, fields_by, fields_in}
use Rattle.descriptor_checks.specs.Senses.{Sense, Nothing, ADescriptor, AField, descriptor_sense, field_in, field_sense, last_segment, outer_path, sense_of}
use Rattle.descriptor_checks.specs.Told.{all_field_errors, field_errors, field_owners, is_field_sense, is_no_field, owner_of, sense_in}
use Rattle.descriptor_checks.specs.declared.fields.Fields.{Fields}
use Rattle.descriptor_checks.proofs.Following.{one_more}

module _ (has : AbsolutePath → Bool) (look : AbsolutePath → Option NamedDescriptor) where
  -- ---- the descriptor of a field

  abbrev owner : Path → AbsolutePath → AbsolutePath
  owner name scope = declared_path (outer_path name) scope

  abbrev by_last : Path → AbsolutePath → Option NameSeg → Option NamedDescriptor → Sense
  by_last name scope segment named = choose segment Nothing (λ segment. choose named Nothing (λ named. field_in named segment))

  abbrev by_searched : Path → AbsolutePath → Bool → Sense
  by_searched name scope c = if c then Nothing else field_sense look name scope

  abbrev by_denoted : Path → AbsolutePath → Option AbsolutePath → Sense
  by_denoted name scope o = choose o (by_searched name scope (is_searched name)) (λ path. descriptor_sense (look path))

  pub has_owner : (name : Path) (scope : AbsolutePath) (bit : ℕ) → AField bit ≡ sense_of has look name scope → is_some (look (owner name scope)) ≡ true
  has_owner name scope bit e = of_denoted (denoted has name scope) e
    where
      of_owner : (segment : Option NameSeg) (named : Option NamedDescriptor) → AField bit ≡ by_last name scope segment named → is_some named ≡ true
      of_owner None named e = absurd (grind arith)
      of_owner (Some segment) None e = absurd (grind arith)
      of_owner (Some segment) (Some named) e = refl

      of_searched : (c : Bool) → AField bit ≡ by_searched name scope c → is_some (look (owner name scope)) ≡ true
      of_searched true e = absurd (grind arith)
      of_searched false e = of_owner (last_segment name.segs) (look (owner name scope)) e

      of_descriptor : (o : Option NamedDescriptor) → AField bit ≡ descriptor_sense o → is_some (look (owner name scope)) ≡ true
      of_descriptor None e = absurd (grind arith)
      of_descriptor (Some named) e = absurd (grind arith)

      of_denoted : (o : Option AbsolutePath) → AField bit ≡ by_denoted name scope o → is_some (look (owner name scope)) ≡ true
      of_denoted None e = of_searched (is_searched name) e
      of_denoted (Some path) e = of_descriptor (look path) e

  module _ (paths : List AbsolutePath) (table : List (Option NamedDescriptor)) (tabled : Tabled paths table look) where
    -- a path of which the table says something has a number
    there : (path : AbsolutePath) → is_some (look path) ≡ true → paths_at paths (numbers_in paths (path ∷ [])) ≡ path ∷ []
    there path some = of_number (number_in paths path) refl
      where
        of_number : (o : Option ℕ) → number_in paths path ≡ o → paths_at paths (choose o [] (λ n. n ∷ []) ++ []) ≡ path ∷ []
        of_number None e = absurd (let x : is_some (look path) ≡ false = ap is_some (sym (tabled path)) ∙ ap (λ o. is_some (entry_at table o)) e in let y = sym some ∙ x in grind arith)
        of_number (Some n) e = ap (λ p. p ∷ []) (number_at paths path n e)

    pub owners_there : (m : Mention) (bit : ℕ) → AField bit ≡ sense_in has look m → paths_at paths (numbers_in paths (owner_of m)) ≡ owner_of m
    owners_there (Used' asked at name scope) bit e = there (owner name scope) (has_owner name scope bit e)
    owners_there (Sought at name scope) bit e = there (owner name scope) (has_owner name scope bit e)
    owners_there (Called asked at name args scope) bit e = there (owner name scope) (has_owner name scope bit e)
    owners_there (Declares at name as' scope) bit e = refl
    owners_there (Outside here at name type scope) bit e = refl
    owners_there (Opens here at name scope inner) bit e = there (owner name scope) (has_owner name scope bit e)

  -- ---- a mention

  pub place_is : (m : Mention) (bit : ℕ) → AField bit ≡ sense_in has look m → field_place m bit ≡ fields_by has look m
  place_is (Used' asked at name scope) bit e = ap (field_at at) e
  place_is (Sought at name scope) bit e = ap (field_at at) e
  place_is (Called asked at name args scope) bit e = refl
  place_is (Declares at name as' scope) bit e = refl
  place_is (Outside here at name type scope) bit e = refl
  place_is (Opens here at name scope inner) bit e = refl

  no_place : (at : At) (s : Sense) → is_field_sense s ≡ false → field_at at s ≡ []
  no_place at Nothing e = refl
  no_place at ADescriptor e = refl
  no_place at (AField bit) e = absurd (grind arith)

  no_places : (m : Mention) → is_field_sense (sense_in has look m) ≡ false → fields_by has look m ≡ []
  no_places (Used' asked at name scope) e = no_place at (sense_of has look name scope) e
  no_places (Sought at name scope) e = no_place at (sense_of has look name scope) e
  no_places (Called asked at name args scope) e = refl
  no_places (Declares at name as' scope) e = refl
  no_places (Outside here at name type scope) e = refl
  no_places (Opens here at name scope inner) e = refl

  abbrev unless_none : {A : Type 0} → Bool → List A → List A
  unless_none c xs = if c then [] else xs

  -- ---- one mention more

  module _ (paths : List AbsolutePath) (old new : Fields) (ms : List Mention) (m : Mention) where
    pub none_more : (s : Sense) → s ≡ sense_in has look m → is_field_sense s ≡ false → AreFields paths has look old ms → AreFields paths has look old (ms ++ m ∷ [])
    none_more s is e h =
        let no : is_no_field has look m ≡ true = ap (λ s. not (is_field_sense s)) (sym is) ∙ ap not e in
        record {
          places = subst (SaysAt old.places.items) (sym (one_more (fields_in has look) (fields_by has look) refl (λ m ms. refl) ms m ∙ ap (λ xs. fields_in has look ms ++ xs) (no_places m (ap is_field_sense (sym is) ∙ e)) ∙ append-nil (fields_in has look ms))) h.places;
          wrong = h.wrong ∙ ap (map message_of) (sym (one_more (all_field_errors has look) (λ m. unless_none (is_no_field has look m) (field_errors m)) refl (λ m ms. refl) ms m ∙ ap (λ c. all_field_errors has look ms ++ unless_none c (field_errors m)) no ∙ append-nil (all_field_errors has look ms)));
          owners = h.owners ∙ sym (one_more (field_owners has look) (λ m. unless_none (is_no_field has look m) (owner_of m)) refl (λ m ms. refl) ms m ∙ ap (λ c. field_owners has look ms ++ unless_none c (owner_of m)) no ∙ append-nil (field_owners has look ms));
        }

    pub field_more : (table : List (Option NamedDescriptor)) (bit : ℕ) → Tabled paths table look → AField bit ≡ sense_in has look m → SaysMore old.places.items new.places.items (field_place m bit)
        → new.wrong.items ≡ old.wrong.items ++ map message_of (field_errors m) → new.owners.items ≡ old.owners.items ++ numbers_in paths (owner_of m) → AreFields paths has look old ms → AreFields paths has look new (ms ++ m ∷ [])
    field_more table bit tabled is places wrong owners h =
        let no : is_no_field has look m ≡ false = ap (λ s. not (is_field_sense s)) (sym is) in
        record {
          places = subst (SaysAt new.places.items) (ap (λ xs. fields_in has look ms ++ xs) (place_is m bit is) ∙ sym (one_more (fields_in has look) (fields_by has look) refl (λ m ms. refl) ms m)) (places (fields_in has look ms) h.places);
          wrong = wrong ∙ ap (λ xs. xs ++ map message_of (field_errors m)) h.wrong ∙ sym (map-append message_of (all_field_errors has look ms) (field_errors m))
              ∙ ap (map message_of) (sym (one_more (all_field_errors has look) (λ m. unless_none (is_no_field has look m) (field_errors m)) refl (λ m ms. refl) ms m ∙ ap (λ c. all_field_errors has look ms ++ unless_none c (field_errors m)) no));
          owners = ap (paths_at paths) owners ∙ map-append (λ n. get_or paths n []) old.owners.items (numbers_in paths (owner_of m))
              ∙ ap (λ xs. xs ++ paths_at paths (numbers_in paths (owner_of m))) h.owners ∙ ap (λ xs. field_owners has look ms ++ xs) (owners_there paths table tabled m bit is)
              ∙ sym (one_more (field_owners has look) (λ m. unless_none (is_no_field has look m) (owner_of m)) refl (λ m ms. refl) ms m ∙ ap (λ c. field_owners has look ms ++ unless_none c (owner_of m)) no);
        }
