-- What is said of paths, by their numbers.
use Rattle.std.proofs.Common.{◌≡◌, ℕ, ◌+◌, ◌<◌, ◌≤◌, Bool, true, false, List, [], ◌∷◌, ◌++◌, length, get_or, Option, Some, None, refl, sym, ap, ◌∙◌, arith}
use Rattle.std.specs.Prelude.{nat_lt, slice_get, if◌then◌else◌}
use Rattle.std.specs.Option.{option_map}
use Rattle.std.proofs.lemmas.Bool.Decides.{nat_tests}
use Rattle.std.proofs.Math.Seq.{get_or-append_seam}
use Rattle.std.proofs.lemmas.List.{get_or_past, get_or_append_left}
use Rattle.std.proofs.lemmas.Option.{slice_get-get_or, slice_get_past}
use Rattle.acpi_values.specs.Paths.{AbsolutePath}
use Rattle.acpi_state.specs.Outcomes.{choose}
use Rattle.iasl_messages.specs.declared.place.Place.{Place}
use Rattle.asl_meaning.specs.Declarations.{is_named}
use Rattle.acpi_names.specs.Errors.{Whole, final}
use Rattle.name_entries.specs.Entries.{described_by, kind_in, end_arity, entry_as, entry_said}
use Rattle.name_entries.specs.Placed.{Places, place_at}
use Rattle.name_entries.specs.declared.kind.ObjectType.{ObjectType}
use Rattle.name_entries.specs.declared.description.Description.{Description}
use Rattle.name_entries.specs.declared.entries.Entry.{Entry}

-- what is said of each path, and of no number more
pub said_each : (paths : List AbsolutePath) (said : List (Option Description)) (look : AbsolutePath → Option Description) → length said ≡ length paths → ((n : ℕ) → n < length paths → get_or said n None ≡ look (get_or paths n [])) → (n : ℕ) → get_or said n None ≡ choose (slice_get paths n) None look
said_each paths said look size each n = by_place (nat_lt n (length paths)) refl
  where
    by_place : (c : Bool) → nat_lt n (length paths) ≡ c → get_or said n None ≡ choose (slice_get paths n) None look
    by_place true c =
        let lt : n < length paths = grind (arith, nat_tests, c) in
        each n lt ∙ sym (ap (λ o. choose o None look) (slice_get-get_or paths n [] lt))
    by_place false c =
        let le : length paths ≤ n = grind (arith, nat_tests, c) in
        get_or_past said n None (omega (arith, le, size)) ∙ sym (ap (λ o. choose o None look) (slice_get_past paths n le))

-- what is said of a path, by whether it is named
abbrev said_of : List ℕ → Whole → Places → AbsolutePath → Bool → Option Description
said_of nodes whole places path named =
    if named then Some (record { kind = kind_in nodes places (final whole.known path); arity = end_arity (final whole.known path); place = place_at places path }) else None

-- a path that is not named is none
pub not_named : (nodes : List ℕ) (whole : Whole) (places : Places) (path : AbsolutePath) (b : Bool) → b ≡ is_named whole.all path → b ≡ false → None ≡ described_by nodes whole places path
not_named nodes whole places path b e h = sym (ap (said_of nodes whole places path) (sym e ∙ h))

abbrev described_as : ObjectType → ℕ → Place → Option Description
described_as kind arity place = Some (record { kind = kind; arity = arity; place = place })

-- a named one is described by its end and its place
pub named_so : (nodes : List ℕ) (whole : Whole) (places : Places) (path : AbsolutePath) (b : Bool) (kind : ObjectType) (arity : ℕ) (place : Place) → b ≡ is_named whole.all path → b ≡ true → kind ≡ kind_in nodes places (final whole.known path) → arity ≡ end_arity (final whole.known path) → place ≡ place_at places path
    → Some (record { kind = kind; arity = arity; place = place }) ≡ described_by nodes whole places path
named_so nodes whole places path b kind arity place e h k a p =
    let found = final whole.known path in
    ap (λ k. described_as k arity place) k ∙ ap (λ a. described_as (kind_in nodes places found) a place) a ∙ ap (λ p. described_as (kind_in nodes places found) (end_arity found) p) p
    ∙ sym (ap (said_of nodes whole places path) (sym e ∙ h))

-- one entry more
pub said_more : {A : Type 0} (all : List (Option A)) (here : Option A) (i : ℕ) (look : ℕ → Option A) → length all ≡ i → ((n : ℕ) → n < i → get_or all n None ≡ look n) → here ≡ look i → (n : ℕ) → n < i + 1 → get_or (all ++ here ∷ []) n None ≡ look n
said_more {A} all here i look size each e n lt = by_place (nat_lt n i) refl
  where
    by_place : (c : Bool) → nat_lt n i ≡ c → get_or (all ++ here ∷ []) n None ≡ look n
    by_place true c =
        let l : n < i = grind (arith, nat_tests, c) in
        get_or_append_left all (here ∷ []) None n (omega (arith, l, size)) ∙ each n l
    by_place false c =
        let at : n ≡ i = grind (arith, nat_tests, c, lt) in
        ap (λ k. get_or (all ++ here ∷ []) k None) (at ∙ sym size) ∙ get_or-append_seam all here [] None ∙ e ∙ ap look (sym at)

-- behind the last path nothing is said, and there is no entry
pub entries_all : (paths : List AbsolutePath) (said : List (Option Description)) (entries : List (Option Entry)) (i : ℕ) → length entries ≡ i → length said ≤ i → ((n : ℕ) → n < i → get_or entries n None ≡ entry_said paths n (get_or said n None)) → (n : ℕ) → get_or entries n None ≡ entry_said paths n (get_or said n None)
entries_all paths said entries i size le each n = by_place (nat_lt n i) refl
  where
    by_place : (c : Bool) → nat_lt n i ≡ c → get_or entries n None ≡ entry_said paths n (get_or said n None)
    by_place true c = each n (grind (arith, nat_tests, c))
    by_place false c =
        let past : i ≤ n = grind (arith, nat_tests, c) in
        get_or_past entries n None (omega (arith, size, past)) ∙ sym (ap (entry_said paths n) (get_or_past said n None (omega (arith, le, past))))

-- an entry, where this is said of each path
pub entry_said_in : (paths : List AbsolutePath) (n : ℕ) (look : AbsolutePath → Option Description) → entry_said paths n (choose (slice_get paths n) None look) ≡ choose (slice_get paths n) None (λ path. option_map (entry_as n path) (look path))
entry_said_in paths n look = by_place (nat_lt n (length paths)) refl
  where
    by_path : (o : Option AbsolutePath) → slice_get paths n ≡ o → entry_said paths n (choose o None look) ≡ choose o None (λ path. option_map (entry_as n path) (look path)) → entry_said paths n (choose (slice_get paths n) None look) ≡ choose (slice_get paths n) None (λ path. option_map (entry_as n path) (look path))
    by_path o e h = ap (λ o. entry_said paths n (choose o None look)) e ∙ h ∙ sym (ap (λ o. choose o None (λ path. option_map (entry_as n path) (look path))) e)

    by_place : (c : Bool) → nat_lt n (length paths) ≡ c → entry_said paths n (choose (slice_get paths n) None look) ≡ choose (slice_get paths n) None (λ path. option_map (entry_as n path) (look path))
    by_place true c = by_path (Some (get_or paths n [])) (slice_get-get_or paths n [] (grind (arith, nat_tests, c))) refl
    by_place false c = by_path None (slice_get_past paths n (grind (arith, nat_tests, c))) refl
