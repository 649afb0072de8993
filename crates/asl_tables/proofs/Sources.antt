-- A source comes to tables where nothing is wrong with it, and only there.
use Rattle.std.proofs.Common.{◌≡◌, ◌≤◌, length, Bool, true, false, List, [], ◌∷◌, refl, ap, ◌∙◌, arith}
use Rattle.std.proofs.lemmas.Bool.{le-leb}
use Rattle.std.proofs.lemmas.Bool.Decides.{nat_tests}
use Rattle.std.specs.Prelude.{nat_le, ◌++◌, if◌then◌else◌}
use Rattle.iasl_messages.specs.declared.message.Message.{Message}
use Rattle.iasl_messages.specs.declared.place.Line.{Line}
use Rattle.iasl_messages.specs.declared.place.Place.{Place}
use Rattle.asl_syntax.specs.declared.raw.Raw.{Raw}
use Rattle.asl_syntax.specs.Written.{writtens}
use Rattle.asl_shape.specs.Forms.{errors_at, source_errors, alone, block_place, AreRight}
use Rattle.asl_shape.proofs.Units.{each_right, right_source}
use Rattle.aml_sizes.specs.TableSizes.{most_table_bytes}
use Rattle.program_shapes.specs.Sources.{names_in, uses_in, locals_in, fields_in, IsRight, EachRight, IsRightSource}
use Rattle.asl_tables.specs.declared.compile.Style.{Style}
use Rattle.block_outcomes.specs.declared.outcome.Compiled.TheVariants.{Made}
use Rattle.block_outcomes.specs.declared.outcome.Outcome.{Outcome}
use Rattle.block_outcomes.specs.declared.outcome.Outcome.TheVariants.{Done, Faulty}
use Rattle.block_outcomes.specs.declared.outcome.Table.{Table}
use Rattle.asl_tables.specs.Compiled.{own_in, told_in, others_in, all_noted, unless_wrong, of_table, written_in, cut_in, too_long, copies_in, unlowered_in, outcome_in, outcomes_in, of_items, tables_of, IsWithin, EachWithin}
use Rattle.block_outcomes.specs.Joined.{unless_refused, tables_among, joined}
use Rattle.block_outcomes.proofs.Joins.{table_with, AreDone, AreSome, done_joined, made_done}
use Rattle.block_checks.specs.Told.{with_others}
use Rattle.block_checks.proofs.Classes.{none_behind, both_none}
use Rattle.block_checks.proofs.Named.{both_first}
use Rattle.asl_tables.proofs.Programs.{none_first, none_of_others, both_right}

-- nothing is told of the names of a right block
nothing_told : (items : List Raw) → IsRight items → told_in items ≡ []
nothing_told items right = none_first (names_in items) (uses_in items) right.names right.uses

-- nor is anything of it not lowered
all_lowered : (style : Style) (items : List Raw) → IsRight items → copies_in style items ≡ [] → unlowered_in style items ≡ []
all_lowered style items right copies = none_first (locals_in items) (copies_in style items) right.locals copies

-- what a right block comes to
right_done : (style : Style) (lines : List Line) (items : List Raw) → IsRight items → IsWithin style items → outcome_in style lines items ≡ Done (fields_in items).signature (own_in items) (cut_in style lines items)
right_done style lines items right within =
    let place = block_place (writtens items) in
    let table = of_table place (fields_in items).signature (own_in items) (written_in style items) (cut_in style lines items) in
    let le : nat_le (length (written_in style items)) most_table_bytes ≡ true = le-leb (length (written_in style items)) most_table_bytes within.table in
    ap (λ es. unless_wrong es (unless_wrong (unlowered_in style items) table)) (none_behind (told_in items) (others_in items) (nothing_told items right) (both_right items right))
    ∙ ap (λ es. unless_wrong es table) (all_lowered style items right within.copies)
    ∙ ap (λ c. if c then Done (fields_in items).signature (own_in items) (cut_in style lines items) else Faulty (too_long place ∷ [])) le

-- and right blocks
each_done : (style : Style) (lines : List Line) (items : List Raw) → EachRight items → EachWithin style items → AreDone (outcomes_in style lines items) × (tables_among (outcomes_in style lines items) ≡ tables_of style lines items)
each_done style lines [] right within = (tt, refl)
each_done style lines (item ∷ items) right within = by (outcome_in style lines one) (each_done style lines items right.1 within.1) (right_done style lines one right.0 within.0)
  where
    one : List Raw
    one = alone item

    others : List Table
    others = tables_among (outcomes_in style lines items)

    by : (o : Outcome) → AreDone (outcomes_in style lines items) × (others ≡ tables_of style lines items) → o ≡ Done (fields_in one).signature (own_in one) (cut_in style lines one)
        → AreDone (o ∷ outcomes_in style lines items) × (tables_among (o ∷ outcomes_in style lines items) ≡ tables_of style lines (item ∷ items))
    by (Done signature own pieces) rest e =
        let same : signature ≡ (fields_in one).signature = cc in
        let name : own ≡ own_in one = cc in
        let cut : pieces ≡ cut_in style lines one = cc in (
          rest.0,
          ap (λ x. table_with x own pieces ∷ others) same
              ∙ ap (λ x. table_with (fields_in one).signature x pieces ∷ others) name
              ∙ ap (λ x. table_with (fields_in one).signature (own_in one) x ∷ others) cut
              ∙ ap (λ ts. table_with (fields_in one).signature (own_in one) (cut_in style lines one) ∷ ts) rest.1,
        )
    by (Faulty messages) rest e = absurd cc

-- the form of right blocks is right
forms_of : (items : List Raw) → EachRight items → AreRight items
forms_of [] h = tt
forms_of (item ∷ items) h = (h.0.form, forms_of items h.1)

-- a source in which nothing is wrong, of which not too many copies are made, and none of whose tables is too long, comes to these
pub made_of : (style : Style) (lines : List Line) (items : List Raw) → IsRightSource items → EachWithin style items → of_items style lines items ≡ Made (tables_of style lines items) (all_noted items)
made_of style lines items right within =
    let done = each_done style lines items right.blocks within in
    ap (λ es. unless_refused es (joined (all_noted items) (outcomes_in style lines items))) (right_source items right.some (forms_of items right.blocks))
    ∙ done_joined (all_noted items) (outcomes_in style lines items) done.0
    ∙ ap (λ ts. Made ts (all_noted items)) done.1

-- ---- and only such a source

both_empty : (first second : List Message) → first ++ second ≡ [] → (first ≡ []) × (second ≡ [])
both_empty [] second e = (refl, e)
both_empty (m ∷ ms) second e = absurd cc

abbrev IsDone : Outcome → Type 0
IsDone (Done signature own pieces) = Unit {0}
IsDone (Faulty messages) = ⊥

abbrev IsSome : Outcome → Type 0
IsSome (Done signature own pieces) = Unit {0}
IsSome (Faulty messages) = messages ≡ [] → ⊥

-- a block that comes to a table is right, not too many copies are made of it, and its table is not too long
done_right : (style : Style) (lines : List Line) (items : List Raw) → errors_at items ≡ [] → IsDone (outcome_in style lines items) → IsRight items × IsWithin style items
done_right style lines items form h = by_names (with_others (told_in items) (others_in items)) refl h
  where
    place : Place
    place = block_place (writtens items)

    table : Outcome
    table = of_table place (fields_in items).signature (own_in items) (written_in style items) (cut_in style lines items)

    by_size : (c : Bool) → nat_le (length (written_in style items)) most_table_bytes ≡ c → IsDone (if c then Done (fields_in items).signature (own_in items) (cut_in style lines items) else Faulty (too_long place ∷ [])) → length (written_in style items) ≤ most_table_bytes
    by_size true e h = grind (arith, nat_tests)
    by_size false e h = absurd h

    by_lowering : (ms : List Message) → unlowered_in style items ≡ ms → (locals_in items ≡ [] → IsRight items) → IsDone (unless_wrong ms table) → IsRight items × IsWithin style items
    by_lowering [] e right h =
        let none = both_first (locals_in items) (copies_in style items) e in
        (right none.0, record { copies = none.1; table = by_size (nat_le (length (written_in style items)) most_table_bytes) refl h })
    by_lowering (m ∷ ms) e right h = absurd h

    by_names : (ms : List Message) → with_others (told_in items) (others_in items) ≡ ms → IsDone (unless_wrong ms (unless_wrong (unlowered_in style items) table)) → IsRight items × IsWithin style items
    by_names [] e h =
        let none = both_none (told_in items) (others_in items) e in
        let told = both_first (names_in items) (uses_in items) none.0 in
        let others = none_of_others items none.1 in
        by_lowering (unlowered_in style items) refl (λ locals. record { form = form; names = told.0; uses = told.1; statements = others.statements; layouts = others.layouts; regions = others.regions; types = others.types; sizes = others.sizes; values = others.values; locals = locals }) h
    by_names (m ∷ ms) e h = absurd h

-- what is wrong with a block is something
some_in : (style : Style) (lines : List Line) (items : List Raw) → IsSome (outcome_in style lines items)
some_in style lines items = by (with_others (told_in items) (others_in items)) (unlowered_in style items)
  where
    place : Place
    place = block_place (writtens items)

    by_size : (c : Bool) → IsSome (if c then Done (fields_in items).signature (own_in items) (cut_in style lines items) else Faulty (too_long place ∷ []))
    by_size true = tt
    by_size false = λ e. absurd cc

    by : (es ls : List Message) → IsSome (unless_wrong es (unless_wrong ls (of_table place (fields_in items).signature (own_in items) (written_in style items) (cut_in style lines items))))
    by [] [] = by_size (nat_le (length (written_in style items)) most_table_bytes)
    by [] (l ∷ ls) = λ e. absurd cc
    by (m ∷ ms) ls = λ e. absurd cc

each_some : (style : Style) (lines : List Line) (items : List Raw) → AreSome (outcomes_in style lines items)
each_some style lines [] = tt
each_some style lines (item ∷ items) = by (outcome_in style lines (alone item)) (some_in style lines (alone item)) (each_some style lines items)
  where
    by : (o : Outcome) → IsSome o → AreSome (outcomes_in style lines items) → AreSome (o ∷ outcomes_in style lines items)
    by (Done signature own pieces) h rest = rest
    by (Faulty messages) h rest = (h, rest)

first_done : (o : Outcome) (os : List Outcome) → AreDone (o ∷ os) → IsDone o × AreDone os
first_done (Done signature own pieces) os h = (tt, h)
first_done (Faulty messages) os h = absurd h

all_right : (style : Style) (lines : List Line) (items : List Raw) → AreRight items → AreDone (outcomes_in style lines items) → EachRight items × EachWithin style items
all_right style lines [] form h = (tt, tt)
all_right style lines (item ∷ items) form h =
    let done = first_done (outcome_in style lines (alone item)) (outcomes_in style lines items) h in
    let one = done_right style lines (alone item) form.0 done.0 in
    let rest = all_right style lines items form.1 done.1 in
    ((one.0, rest.0), (one.1, rest.1))

some_items : (items : List Raw) → source_errors items ≡ [] → items ≡ [] → ⊥
some_items [] e is = absurd cc
some_items (item ∷ items) e is = absurd cc

pub made_from : (style : Style) (lines : List Line) (items : List Raw) (tables : List Table) (notes : List Message) → of_items style lines items ≡ Made tables notes → IsRightSource items × EachWithin style items
made_from style lines items tables notes e = by (source_errors items) refl e
  where
    by : (es : List Message) → source_errors items ≡ es → unless_refused es (joined (all_noted items) (outcomes_in style lines items)) ≡ Made tables notes → IsRightSource items × EachWithin style items
    by [] form e =
        let done = made_done (all_noted items) (outcomes_in style lines items) tables notes (each_some style lines items) e in
        let right = all_right style lines items (each_right items form) done in
        (record { some = some_items items form; blocks = right.0 }, right.1)
    by (m ∷ ms) form e = absurd cc
