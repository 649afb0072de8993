-- What is told of mentions, one after another.
use Rattle.std.proofs.Common.{◌≡◌, ℕ, ◌+◌, ◌<◌, Bool, true, false, List, [], ◌∷◌, ◌++◌, map, length, get_or, take, Option, None, refl, sym, ap, ◌∙◌, arith}
use Rattle.std.specs.Prelude.{filter, not, if◌then◌else◌}
use Rattle.std.proofs.lemmas.Grind.{take_at_read}
use Rattle.std.proofs.lemmas.List.{map-append}
use Rattle.std.proofs.lemmas.List.Elements.{filter-append}
use Rattle.acpi_values.specs.Paths.{AbsolutePath}
use Rattle.iasl_messages.specs.declared.message.Message.{Message}
use Rattle.asl_meaning.specs.Declarations.{Declarations}
use Rattle.acpi_names.specs.Mentions as M
use Rattle.acpi_names.specs.Mentions.{after, after_all}
use Rattle.acpi_names.specs.Paths.{AreDistinct, number_in}
use Rattle.acpi_state.specs.Outcomes.{choose}
use Rattle.acpi_names.specs.Shown.{shown, all_shown}
use Rattle.acpi_names.specs.Tables.{Tabled}
use Rattle.acpi_names.specs.declared.mention.Mention.{Mention}
use Rattle.asl_tree.specs.declared.term.NamedDescriptor.{NamedDescriptor}
use Rattle.name_checks.specs.Messages.{message_of}
use Rattle.name_kinds.proofs.Entries.{entry_here}
use Rattle.descriptor_checks.specs.Fields.{AreSorted, numbers_in, paths_at}
use Rattle.descriptor_checks.specs.Senses.{Sense}
use Rattle.descriptor_checks.specs.Told.{is_nothing, is_field_sense, sense_in, is_no_field, is_of_no_descriptor, fault_of, below_errors, all_below, use_faults, all_use_faults}
use Rattle.descriptor_checks.specs.declared.told.Sorted.{Sorted}
use Rattle.descriptor_checks.proofs.Following.{next_of, one_more}

-- the descriptor with the number of its path
pub described_at : (paths : List AbsolutePath) (table : List (Option NamedDescriptor)) (look : AbsolutePath → Option NamedDescriptor) (n : ℕ) → AreDistinct paths → n < length paths → Tabled paths table look → get_or table n None ≡ look (get_or paths n [])
described_at paths table look n distinct lt tabled = sym (entry_here paths table n distinct lt) ∙ tabled (get_or paths n [])

-- ---- one mention more, by what it denotes

module _ (has : AbsolutePath → Bool) (look : AbsolutePath → Option NamedDescriptor) (paths : List AbsolutePath) (old new : Sorted) (ms : List M.Mention) (m : Mention) (s : Sense) (is : s ≡ sense_in has look (shown paths m)) where
  abbrev one : Bool → List Mention
  one c = if c then m ∷ [] else []

  shown_one : (test : M.Mention → Bool) (c : Bool) → test (shown paths m) ≡ c → all_shown paths (one c) ≡ filter test (shown paths m ∷ [])
  shown_one test true e = grind (arith, e)
  shown_one test false e = grind (arith, e)

  filtered : (test : M.Mention → Bool) (c : Bool) → test (shown paths m) ≡ c → (xs ys : List Mention) → ys ≡ xs ++ one c → all_shown paths xs ≡ filter test ms → all_shown paths ys ≡ filter test (ms ++ shown paths m ∷ [])
  filtered test c e xs ys f inv =
      ap (all_shown paths) f ∙ map-append (shown paths) xs (one c) ∙ ap (λ zs. zs ++ all_shown paths (one c)) inv
      ∙ ap (λ zs. filter test ms ++ zs) (shown_one test c e) ∙ sym (filter-append test ms (shown paths m ∷ []))

  abbrev told : Sense → List Message
  told s = if is_nothing s then [] else fault_of (shown paths m)

  pub sorted_more : new.names.items ≡ old.names.items ++ one (not (is_field_sense s)) → new.kinds.items ≡ old.kinds.items ++ one (is_nothing s) → new.faults.items ≡ old.faults.items ++ told s → AreSorted paths has look old ms → AreSorted paths has look new (ms ++ shown paths m ∷ [])
  sorted_more e f g h = record {
    names = filtered (is_no_field has look) (not (is_field_sense s)) (ap (λ s. not (is_field_sense s)) (sym is)) old.names.items new.names.items e h.names;
    kinds = filtered (is_of_no_descriptor has look) (is_nothing s) (ap is_nothing (sym is)) old.kinds.items new.kinds.items f h.kinds;
    faults = g ∙ ap (λ xs. xs ++ told s) h.faults ∙ ap (λ s. all_use_faults has look ms ++ told s) is ∙ sym (one_more (all_use_faults has look) (use_faults has look) refl (λ m ms. refl) ms (shown paths m));
  }

-- ---- the numbers of paths

pub next_number : (from to : List AbsolutePath) (old new numbers : List ℕ) (i : ℕ) (found : Option ℕ) → i < length numbers → found ≡ number_in to (get_or from (get_or numbers i 0) []) → new ≡ old ++ choose found [] (λ n. n ∷ [])
    → old ≡ numbers_in to (paths_at from (take i numbers)) → new ≡ numbers_in to (paths_at from (take (i + 1) numbers))
next_number from to old new numbers i found lt there e inv =
    let n = get_or numbers i 0 in
    e ∙ ap (λ ns. ns ++ choose found [] (λ n. n ∷ [])) inv ∙ ap (λ o. numbers_in to (paths_at from (take i numbers)) ++ choose o [] (λ n. n ∷ [])) there
    ∙ sym (ap (λ ns. numbers_in to (paths_at from ns)) (take_at_read numbers i 0 lt).1
    ∙ ap (numbers_in to) (map-append (λ n. get_or from n []) (take i numbers) (n ∷ []))
    ∙ one_more (numbers_in to) (λ path. choose (number_in to path) [] (λ n. n ∷ [])) refl (λ p ps. refl) (paths_at from (take i numbers)) (get_or from n []))

-- ---- what is told

pub next_below : (paths : List AbsolutePath) (look : AbsolutePath → Option NamedDescriptor) (old new : List Message) (mentions : List Mention) (i : ℕ) (m : Mention) → i < length mentions → m ≡ get_or mentions i m → new ≡ old ++ map message_of (below_errors look (shown paths m))
    → old ≡ map message_of (all_below look (take i (all_shown paths mentions))) → new ≡ map message_of (all_below look (take (i + 1) (all_shown paths mentions)))
next_below paths look old new mentions i m lt is e inv =
    e ∙ ap (λ ms. ms ++ map message_of (below_errors look (shown paths m))) inv ∙ sym (map-append message_of (all_below look (take i (all_shown paths mentions))) (below_errors look (shown paths m)))
    ∙ ap (map message_of) (sym (next_of (all_below look) (below_errors look) refl (λ m ms. refl) paths mentions i m lt is))

-- ---- what is declared by the mentions that are no fields

module _ (has : AbsolutePath → Bool) (look : AbsolutePath → Option NamedDescriptor) where
  -- a field declares nothing
  nothing_more : (m : M.Mention) (d : Declarations) → is_no_field has look m ≡ false → after m d ≡ d
  nothing_more (M.Declares at name as' scope) d e = absurd (grind arith)
  nothing_more (M.Outside here at name type scope) d e = absurd (grind arith)
  nothing_more _ d e = refl

  pub declared_kept : (ms : List M.Mention) (d : Declarations) → after_all (filter (is_no_field has look) ms) d ≡ after_all ms d
  declared_kept [] d = refl
  declared_kept (m ∷ ms) d = by_sense (is_no_field has look m) refl (declared_kept ms)
    where
      by_sense : (c : Bool) → is_no_field has look m ≡ c → ((d : Declarations) → after_all (filter (is_no_field has look) ms) d ≡ after_all ms d) → after_all (filter (is_no_field has look) (m ∷ ms)) d ≡ after_all ms (after m d)
      by_sense true e same = let kept : filter (is_no_field has look) (m ∷ ms) ≡ m ∷ filter (is_no_field has look) ms = grind (arith, e) in ap (λ xs. after_all xs d) kept ∙ same (after m d)
      by_sense false e same = let left : filter (is_no_field has look) (m ∷ ms) ≡ filter (is_no_field has look) ms = grind (arith, e) in ap (λ xs. after_all xs d) left ∙ same d ∙ ap (after_all ms) (sym (nothing_more m d e))
