-- Outcomes of blocks, by their classes and together.
use Rattle.std.proofs.Common.{◌≡◌, ℕ, length, true, List, [], ◌∷◌, ◌++◌, append_assoc, Option, refl, sym, ap, ◌∙◌}
use Rattle.std.specs.Prelude.{if◌then◌else◌}
use Rattle.std.proofs.lemmas.List.{append-nil}
use Rattle.iasl_messages.specs.declared.message.Message.{Message}
use Rattle.iasl_messages.specs.declared.place.Piece.{Piece}
use Rattle.block_outcomes.specs.declared.outcome.Class.{Class}
use Rattle.block_outcomes.specs.declared.outcome.Class.TheVariants as class
use Rattle.block_outcomes.specs.declared.outcome.Compiled.{Compiled}
use Rattle.block_outcomes.specs.declared.outcome.Compiled.TheVariants.{Made, Refused}
use Rattle.block_outcomes.specs.declared.outcome.Outcome.{Outcome}
use Rattle.block_outcomes.specs.declared.outcome.Outcome.TheVariants.{Done, Faulty}
use Rattle.block_outcomes.specs.declared.outcome.Sorted.{Sorted}
use Rattle.block_outcomes.specs.declared.outcome.Table.{Table}
use Rattle.block_outcomes.specs.Joined.{first_told, class_of, is_class, class_in, is_class_in, if_class, of_class, tables_among, unless_refused, unless_noted, later_errors, joined}
use Rattle.block_outcomes.specs.Sorted.{AreSorted}

abbrev pub table_with : List ℕ → List ℕ → List Piece → Table
table_with signature own pieces = record { signature = signature; own = own; pieces = pieces }

-- ---- one outcome more

class_faulty : (c : Class) (os : List Outcome) (errors : List Message) → of_class c (os ++ Faulty errors ∷ []) ≡ of_class c os ++ if_class c errors
class_faulty c [] errors = append-nil (if_class c errors)
class_faulty c (Done signature own pieces ∷ os) errors = class_faulty c os errors
class_faulty c (Faulty messages ∷ os) errors = ap (λ es. if_class c messages ++ es) (class_faulty c os errors) ∙ sym (append_assoc (if_class c messages) (of_class c os) (if_class c errors))

class_done : (c : Class) (os : List Outcome) (signature own : List ℕ) (pieces : List Piece) → of_class c (os ++ Done signature own pieces ∷ []) ≡ of_class c os
class_done c [] signature own pieces = refl
class_done c (Done s o p ∷ os) signature own pieces = class_done c os signature own pieces
class_done c (Faulty messages ∷ os) signature own pieces = ap (λ es. if_class c messages ++ es) (class_done c os signature own pieces)

tables_faulty : (os : List Outcome) (errors : List Message) → tables_among (os ++ Faulty errors ∷ []) ≡ tables_among os
tables_faulty [] errors = refl
tables_faulty (Done s o p ∷ os) errors = ap (λ ts. table_with s o p ∷ ts) (tables_faulty os errors)
tables_faulty (Faulty messages ∷ os) errors = tables_faulty os errors

tables_done : (os : List Outcome) (signature own : List ℕ) (pieces : List Piece) → tables_among (os ++ Done signature own pieces ∷ []) ≡ tables_among os ++ table_with signature own pieces ∷ []
tables_done [] signature own pieces = refl
tables_done (Done s o p ∷ os) signature own pieces = ap (λ ts. table_with s o p ∷ ts) (tables_done os signature own pieces)
tables_done (Faulty messages ∷ os) signature own pieces = tables_done os signature own pieces

-- errors of this class, if they are
if_is : (c : Class) (errors : List Message) (o : Option Class) → class_in errors ≡ o → if_class c errors ≡ (if is_class_in c o then errors else [])
if_is c errors o e = ap (λ o. if is_class_in c o then errors else []) e

-- errors of one class go to those of that class
one_class : (c : Class) (os : List Outcome) (errors old new : List Message) (o : Option Class) → class_in errors ≡ o → old ≡ of_class c os → new ≡ old ++ (if is_class_in c o then errors else []) → new ≡ of_class c (os ++ Faulty errors ∷ [])
one_class c os errors old new o is before e =
    e ∙ ap (λ ms. ms ++ (if is_class_in c o then errors else [])) before ∙ ap (λ es. of_class c os ++ es) (sym (if_is c errors o is)) ∙ sym (class_faulty c os errors)

pub faulty_sorted : (o : Option Class) (os : List Outcome) (errors : List Message) (old new : Sorted) → class_in errors ≡ o → AreSorted os old
    → new.names ≡ old.names ++ (if is_class_in class.Names o then errors else []) → new.kinds ≡ old.kinds ++ (if is_class_in class.Kinds o then errors else [])
    → new.lowering ≡ old.lowering ++ (if is_class_in class.Lowering o then errors else []) → new.sizes ≡ old.sizes ++ (if is_class_in class.Sizes o then errors else [])
    → new.tables ≡ old.tables → AreSorted (os ++ Faulty errors ∷ []) new
faulty_sorted o os errors old new is h en ek el es et = record {
  names = one_class class.Names os errors old.names new.names o is h.names en;
  kinds = one_class class.Kinds os errors old.kinds new.kinds o is h.kinds ek;
  lowering = one_class class.Lowering os errors old.lowering new.lowering o is h.lowering el;
  sizes = one_class class.Sizes os errors old.sizes new.sizes o is h.sizes es;
  tables = et ∙ h.tables ∙ sym (tables_faulty os errors);
}

-- none more
pub same_more : (ms : List Message) → ms ≡ ms ++ []
same_more ms = sym (append-nil ms)

pub done_sorted : (os : List Outcome) (signature own : List ℕ) (pieces : List Piece) (old new : Sorted) → AreSorted os old → new.names ≡ old.names → new.kinds ≡ old.kinds → new.lowering ≡ old.lowering → new.sizes ≡ old.sizes
    → new.tables ≡ old.tables ++ table_with signature own pieces ∷ [] → AreSorted (os ++ Done signature own pieces ∷ []) new
done_sorted os signature own pieces old new h en ek el es et = record {
  names = en ∙ h.names ∙ sym (class_done class.Names os signature own pieces);
  kinds = ek ∙ h.kinds ∙ sym (class_done class.Kinds os signature own pieces);
  lowering = el ∙ h.lowering ∙ sym (class_done class.Lowering os signature own pieces);
  sizes = es ∙ h.sizes ∙ sym (class_done class.Sizes os signature own pieces);
  tables = et ∙ ap (λ ts. ts ++ table_with signature own pieces ∷ []) h.tables ∙ sym (tables_done os signature own pieces);
}

-- ---- together

unless_some : (errors : List Message) (it : Compiled) → (length errors ≡ 0 → ⊥) → Refused errors ≡ unless_refused errors it
unless_some [] it h = absurd (h refl)
unless_some (m ∷ ms) it h = refl

noted_some : (errors notes : List Message) (it : Compiled) → (length errors ≡ 0 → ⊥) → Refused (errors ++ notes) ≡ unless_noted errors notes it
noted_some [] notes it h = absurd (h refl)
noted_some (m ∷ ms) notes it h = refl

none_long : (ms : List Message) → length ms ≡ 0 → ms ≡ []
none_long [] e = refl
none_long (m ∷ ms) e = absurd cc

pub joined_names : (notes : List Message) (os : List Outcome) (sorted : Sorted) → AreSorted os sorted → (length sorted.names ≡ 0 → ⊥) → Refused sorted.names ≡ joined notes os
joined_names notes os sorted h some =
    unless_some sorted.names (unless_noted (later_errors os) notes (Made (tables_among os) notes)) some
    ∙ ap (λ es. unless_refused es (unless_noted (later_errors os) notes (Made (tables_among os) notes))) h.names

-- the errors behind those of names
later_are : (os : List Outcome) (sorted : Sorted) (errors : List Message) → AreSorted os sorted → errors ≡ first_told sorted.kinds (first_told sorted.lowering sorted.sizes) → errors ≡ later_errors os
later_are os sorted errors h e =
    e ∙ ap (λ ks. first_told ks (first_told sorted.lowering sorted.sizes)) h.kinds
    ∙ ap (λ ls. first_told (of_class class.Kinds os) (first_told ls sorted.sizes)) h.lowering
    ∙ ap (λ ss. first_told (of_class class.Kinds os) (first_told (of_class class.Lowering os) ss)) h.sizes

-- where there are none of names
names_none : (notes : List Message) (os : List Outcome) (sorted : Sorted) → AreSorted os sorted → length sorted.names ≡ 0 → joined notes os ≡ unless_noted (later_errors os) notes (Made (tables_among os) notes)
names_none notes os sorted h none = ap (λ es. unless_refused es (unless_noted (later_errors os) notes (Made (tables_among os) notes))) (sym h.names ∙ none_long sorted.names none)

pub joined_later : (notes : List Message) (os : List Outcome) (sorted : Sorted) (errors all : List Message) → AreSorted os sorted → length sorted.names ≡ 0 → errors ≡ first_told sorted.kinds (first_told sorted.lowering sorted.sizes) → (length errors ≡ 0 → ⊥)
    → all ≡ errors ++ notes → Refused all ≡ joined notes os
joined_later notes os sorted errors all h none e some are =
    ap Refused are ∙ noted_some errors notes (Made (tables_among os) notes) some ∙ ap (λ es. unless_noted es notes (Made (tables_among os) notes)) (later_are os sorted errors h e)
    ∙ sym (names_none notes os sorted h none)

pub joined_made : (notes : List Message) (os : List Outcome) (sorted : Sorted) (errors : List Message) → AreSorted os sorted → length sorted.names ≡ 0 → errors ≡ first_told sorted.kinds (first_told sorted.lowering sorted.sizes) → length errors ≡ 0
    → Made sorted.tables notes ≡ joined notes os
joined_made notes os sorted errors h none e few =
    ap (λ ts. Made ts notes) h.tables ∙ sym (ap (λ es. unless_noted es notes (Made (tables_among os) notes)) (sym (later_are os sorted errors h e) ∙ none_long errors few))
    ∙ sym (names_none notes os sorted h none)

-- ---- which outcomes are tables alone

-- none of them is faulty
abbrev pub AreDone : List Outcome → Type 0
AreDone [] = Unit {0}
AreDone (Done signature own pieces ∷ os) = AreDone os
AreDone (Faulty messages ∷ os) = ⊥

none_of_class : (c : Class) (os : List Outcome) → AreDone os → of_class c os ≡ []
none_of_class c [] h = refl
none_of_class c (Done signature own pieces ∷ os) h = none_of_class c os h
none_of_class c (Faulty messages ∷ os) h = absurd h

-- such outcomes come to their tables
pub done_joined : (notes : List Message) (os : List Outcome) → AreDone os → joined notes os ≡ Made (tables_among os) notes
done_joined notes os h =
    ap (λ es. unless_refused es (unless_noted (later_errors os) notes (Made (tables_among os) notes))) (none_of_class class.Names os h)
    ∙ ap (λ es. unless_noted (first_told es (first_told (of_class class.Lowering os) (of_class class.Sizes os))) notes (Made (tables_among os) notes)) (none_of_class class.Kinds os h)
    ∙ ap (λ es. unless_noted (first_told es (of_class class.Sizes os)) notes (Made (tables_among os) notes)) (none_of_class class.Lowering os h)
    ∙ ap (λ es. unless_noted es notes (Made (tables_among os) notes)) (none_of_class class.Sizes os h)

same_class : (c : Class) → is_class c c ≡ true
same_class class.Names = refl
same_class class.Kinds = refl
same_class class.Lowering = refl
same_class class.Sizes = refl

-- each error is there
abbrev pub AreSome : List Outcome → Type 0
AreSome [] = Unit {0}
AreSome (Done signature own pieces ∷ os) = AreSome os
AreSome (Faulty messages ∷ os) = (messages ≡ [] → ⊥) × AreSome os

if_own : (m : Message) (ms : List Message) → if_class (class_of m.number) (m ∷ ms) ≡ m ∷ ms
if_own m ms = ap (λ b. if b then m ∷ ms else []) (same_class (class_of m.number))

-- no class has an error
abbrev None' : List Outcome → Type 0
None' os = (c : Class) → of_class c os ≡ []

none_of_both : (xs ys : List Message) → xs ++ ys ≡ [] → (xs ≡ []) × (ys ≡ [])
none_of_both [] ys e = (refl, e)
none_of_both (x ∷ xs) ys e = absurd cc

none_faulty : (os : List Outcome) → AreSome os → None' os → AreDone os
none_faulty [] some none = tt
none_faulty (Done signature own pieces ∷ os) some none = none_faulty os some none
none_faulty (Faulty [] ∷ os) some none = absurd (some.0 refl)
none_faulty (Faulty (m ∷ ms) ∷ os) some none =
    let both = none_of_both (if_class (class_of m.number) (m ∷ ms)) (of_class (class_of m.number) os) (none (class_of m.number)) in
    let nothing : m ∷ ms ≡ [] = sym (if_own m ms) ∙ both.0 in
    absurd cc

both_first : (messages others : List Message) → first_told messages others ≡ [] → (messages ≡ []) × (others ≡ [])
both_first [] others e = (refl, e)
both_first (m ∷ ms) others e = absurd cc

-- what comes to tables has no faulty outcome
pub made_done : (notes : List Message) (os : List Outcome) (tables : List Table) (told : List Message) → AreSome os → joined notes os ≡ Made tables told → AreDone os
made_done notes os tables told some e = by (of_class class.Names os) (later_errors os) refl refl e
  where
    each : of_class class.Names os ≡ [] → later_errors os ≡ [] → None' os
    each names later =
        let kinds = both_first (of_class class.Kinds os) (first_told (of_class class.Lowering os) (of_class class.Sizes os)) later in
        let lowering = both_first (of_class class.Lowering os) (of_class class.Sizes os) kinds.1 in
        pick names kinds.0 lowering.0 lowering.1
      where
        pick : of_class class.Names os ≡ [] → of_class class.Kinds os ≡ [] → of_class class.Lowering os ≡ [] → of_class class.Sizes os ≡ [] → (c : Class) → of_class c os ≡ []
        pick en ek el es class.Names = en
        pick en ek el es class.Kinds = ek
        pick en ek el es class.Lowering = el
        pick en ek el es class.Sizes = es

    by : (ns ls : List Message) → of_class class.Names os ≡ ns → later_errors os ≡ ls → unless_refused ns (unless_noted ls notes (Made (tables_among os) notes)) ≡ Made tables told → AreDone os
    by [] [] en el e = none_faulty os some (each en el)
    by [] (l ∷ ls) en el e = absurd cc
    by (n ∷ ns) ls en el e = absurd cc
