-- What a block, a program and a source come to.
use Rattle.std.proofs.Common.{ℕ, Bool, ◌≡◌, ◌<◌, ◌≤◌, ◌^◌, length, List, [], ◌∷◌, Result, Ok, Err, refl, sym, ap, ◌∙◌, subst, arith}
use Rattle.std.specs.Prelude.{IfOk, ◌++◌}
use Rattle.std.specs.declared.alloc.AllocError.{AllocError}
use Rattle.iasl_messages.specs.declared.message.Stage.{Stage}
use Rattle.iasl_messages.specs.declared.message.Stage.TheVariants.{Refused as Refused'}
use Rattle.asl_shape.specs.AtRaw.{Refuses as ShapeRefuses}
use Rattle.std.proofs.lemmas.Nat.{mod_below}
use Rattle.iasl_messages.specs.declared.message.Message.{Message}
use Rattle.acpi_values.specs.Paths.{AbsolutePath}
use Rattle.asl_tree.specs.declared.program.Block.{Block}
use Rattle.asl_tree.specs.Tree.{Trees}
use Rattle.aml_code.specs.Header.{HeaderFields, fields_of}
use Rattle.named_sessions.specs.Shaped.{AreFormed, AreNamed, AreShaped}
use Rattle.asl_lower.specs.Nodes.{named_all}
use Rattle.asl_prints.specs.Forms.{formed_all}
use Rattle.form_shapes.specs.Near.{AreNear}
use Rattle.hidden_locals.specs.Switches.{without_switches}
use Rattle.asl_syntax.specs.declared.raw.Raw.{Raw}
use Rattle.asl_syntax.specs.Written.{writtens}
use Rattle.term_plans.specs.Plans.{plans_of, plan_at, number_of}
use Rattle.asl_shape.specs.Forms.{IsBlock, IsBlockOf, errors_at, args_of, block_place}
use Rattle.asl_numbers.specs.Numbers.{numbered_all}
use Rattle.program_shapes.specs.Kept.{IsKeptSource}
use Rattle.program_shapes.specs.Sources.{plans_in, terms_in, statements_in, layouts_in, regions_in, types_in, sizes_in, values_in, notes_in, fields_in, width_in, described_in, IsRight}
use Rattle.iasl_messages.specs.declared.place.Place.{Place}
use Rattle.iasl_messages.specs.declared.place.Line.{Line}
use Rattle.source_pieces.specs.Places.{core_places}
use Rattle.program_shapes.proofs.Blocks.{terms_as, room_in}
use Rattle.descriptor_checks.specs.Resolved.{resolved_terms, described_paths}
use Rattle.program_shapes.proofs.Headers.{HaveRoom}
use Rattle.program_shapes.proofs.Tables.{terms_are_formed, terms_are_near, core_is_shaped}
use Rattle.acpi_values.specs.Revisions.{width_of}
use Rattle.block_outcomes.specs.declared.outcome.Compiled.{Compiled}
use Rattle.block_outcomes.specs.declared.outcome.Compiled.TheVariants.{Refused}
use Rattle.block_outcomes.specs.declared.outcome.Outcome.{Outcome}
use Rattle.block_outcomes.specs.declared.outcome.Outcome.TheVariants.{Faulty}
use Rattle.asl_tables.specs.declared.compile.Style.{Style}
use Rattle.asl_tables.specs.Compiled.{table_with, its_pieces, unless_wrong, told_in, others_in, own_in, of_table, of_terms, unlowered, unlowered_in, outcome_in}
use Rattle.block_outcomes.specs.Joined.{unless_refused, first_told}
use Rattle.block_checks.specs.Told.{errors_beside_names, noted_of, told_of_names}
use Rattle.asl_tables.specs.Ready.{FitsHeader}

-- errors that there are
pub refused_is : (messages errors : List Message) (it : Outcome) → (messages ≡ errors) × (errors ≡ [] → ⊥) → Faulty messages ≡ unless_wrong errors it
refused_is messages [] it h = absurd (h.1 refl)
refused_is messages (m ∷ ms) it h = ap Faulty h.0

-- none
pub right_is : (errors : List Message) (it other : Outcome) → errors ≡ [] → it ≡ other → it ≡ unless_wrong errors other
right_is errors it other e h = h ∙ sym (ap (λ es. unless_wrong es other) e)

-- nothing is told first, nor else
pub none_first : (messages others : List Message) → messages ≡ [] → others ≡ [] → first_told messages others ≡ []
none_first messages others e f = ap (λ ms. first_told ms others) e ∙ f

-- a block as it is compiled: its source's, with the fields of its descriptors as constants
abbrev pub IsResolvedOf : List Raw → Block → Type 0
IsResolvedOf items block = IsBlock (block_place (writtens items)) (args_of (writtens items)) (plans_in items) block

pub resolved_block : (items : List Raw) (block made : Block) → IsBlockOf items block → made.place ≡ block.place → made.file ≡ block.file → fields_of made ≡ fields_of block → plans_of made.terms.items ≡ resolved_terms (plans_of block.terms.items) → IsResolvedOf items made
unfolding IsBlockOf
resolved_block items block made h place file fields terms = record {
  place = place ∙ h.place;
  file = file ∙ h.file;
  signature = ap (λ (f : HeaderFields). f.signature) fields ∙ h.signature;
  revision = ap (λ (f : HeaderFields). f.revision) fields ∙ h.revision;
  oem_id = ap (λ (f : HeaderFields). f.oem_id) fields ∙ h.oem_id;
  table_id = ap (λ (f : HeaderFields). f.table_id) fields ∙ h.table_id;
  oem_revision = ap (λ (f : HeaderFields). f.oem_revision) fields ∙ h.oem_revision;
  terms = terms ∙ ap resolved_terms h.terms;
}

-- the terms of a source's block are formed as they are written
pub written_formed : (items : List Raw) (block : Block) → errors_at items ≡ [] → IsBlockOf items block → IsKeptSource (writtens items) → AreFormed (Unit {0}) AreNamed (Unit {0}) (Unit {0}) (numbered_all 0 (plans_of block.terms.items))
unfolding errors_at IsBlockOf
written_formed items block e h k = subst (λ ps. AreFormed (Unit {0}) AreNamed (Unit {0}) (Unit {0}) (numbered_all 0 ps)) (sym h.terms) (terms_as (writtens items) e k 0)

-- what is told of the names of a block's terms is what is told of those of its source
pub same_told : (items : List Raw) (block : Block) (names : List Message) → IsBlockOf items block → names ≡ told_of_names (plans_of block.terms.items) → names ≡ told_in items
unfolding IsBlockOf
same_told items block names h e = e ∙ ap told_of_names h.terms

-- the paths of its descriptors
pub same_described : (items : List Raw) (block : Block) → IsBlockOf items block → described_paths (plans_of block.terms.items) ≡ described_in items
unfolding IsBlockOf
same_described items block h = ap described_paths h.terms

-- so is what else is wrong with it, and the notes on its names
pub same_others : (items : List Raw) (block : Block) (errors : List Message) → IsBlockOf items block → errors ≡ errors_beside_names (width_of block.revision) (plans_of block.terms.items) → errors ≡ others_in items
unfolding IsBlockOf
same_others items block errors h e =
    e ∙ ap (λ n. errors_beside_names (width_of n) (plans_of block.terms.items)) h.revision
    ∙ ap (errors_beside_names (width_in items)) h.terms

pub same_notes : (items : List Raw) (block : Block) (notes : List Message) → IsBlockOf items block → notes ≡ noted_of (plans_of block.terms.items) → notes ≡ notes_in items
unfolding IsBlockOf
same_notes items block notes h e = e ∙ ap noted_of h.terms

-- the width of its integers
pub same_width : (items : List Raw) (block : Block) → IsBlockOf items block → width_of block.revision ≡ width_in items
unfolding IsBlockOf
same_width items block h = ap width_of h.revision

-- the header of a block has room
pub block_room : (items : List Raw) (block : Block) → errors_at items ≡ [] → IsResolvedOf items block → IsKeptSource (writtens items) → FitsHeader (fields_of block)
unfolding errors_at
block_room items block e h k =
    let room : HaveRoom (args_of (writtens items)) = room_in (writtens items) e k in
    record {
      signature = ap length h.signature ∙ room.signature;
      oem_id = subst (λ text. length text ≤ 6) (sym h.oem_id) room.oem_id;
      table_id = subst (λ text. length text ≤ 8) (sym h.table_id) room.table_id;
      oem_revision = subst (λ n. n < 2 ^ 32) (sym h.oem_revision) (mod_below (number_of (plan_at (args_of (writtens items)) 5)) 4294967296 (omega arith));
    }

same_terms : (items : List Raw) (block : Block) (terms : Trees) → IsResolvedOf items block → terms ≡ numbered_all 0 (plans_of block.terms.items) → terms ≡ terms_in items
same_terms items block terms h e = e ∙ ap (numbered_all 0) h.terms

-- its terms, numbered, are formed
pub block_formed : (items : List Raw) (block : Block) (terms : Trees) → errors_at items ≡ [] → IsResolvedOf items block → IsKeptSource (writtens items) → terms ≡ numbered_all 0 (plans_of block.terms.items) → AreFormed (Unit {0}) AreNamed (Unit {0}) (Unit {0}) terms
block_formed items block terms e h k is = subst (AreFormed (Unit {0}) AreNamed (Unit {0}) (Unit {0})) (sym (same_terms items block terms h is)) (terms_are_formed items e k)

both_nil : (xs ys : List Message) → xs ++ ys ≡ [] → (xs ≡ []) × (ys ≡ [])
both_nil [] ys e = (refl, e)
both_nil (x ∷ xs) ys e = absurd cc

-- nothing is wrong with statements, lists of fields and accesses, with kinds, with the lengths of lists and with the values of Cases
pub record NoOthers (items : List Raw) : Type 0 where
  pub statements : statements_in items ≡ []
  pub layouts : layouts_in items ≡ []
  pub regions : regions_in items ≡ []
  pub types : types_in items ≡ []
  pub sizes : sizes_in items ≡ []
  pub values : values_in items ≡ []

pub none_of_others : (items : List Raw) → others_in items ≡ [] → NoOthers items
none_of_others items e =
    let values = both_nil (statements_in items ++ layouts_in items ++ regions_in items ++ types_in items ++ sizes_in items) (values_in items) e in
    let sizes = both_nil (statements_in items ++ layouts_in items ++ regions_in items ++ types_in items) (sizes_in items) values.0 in
    let types = both_nil (statements_in items ++ layouts_in items ++ regions_in items) (types_in items) sizes.0 in
    let regions = both_nil (statements_in items ++ layouts_in items) (regions_in items) types.0 in
    let first = both_nil (statements_in items) (layouts_in items) regions.0 in
    record { statements = first.0; layouts = first.1; regions = regions.1; types = types.1; sizes = sizes.1; values = values.1 }

pub both_right : (items : List Raw) → IsRight items → others_in items ≡ []
both_right items right =
    ap (λ ms. ms ++ layouts_in items ++ regions_in items ++ types_in items ++ sizes_in items ++ values_in items) right.statements
    ∙ ap (λ ms. ms ++ regions_in items ++ types_in items ++ sizes_in items ++ values_in items) right.layouts
    ∙ ap (λ ms. ms ++ types_in items ++ sizes_in items ++ values_in items) right.regions
    ∙ ap (λ ms. ms ++ sizes_in items ++ values_in items) right.types
    ∙ ap (λ ms. ms ++ values_in items) right.sizes
    ∙ right.values

-- no Continue of a For stands in a container in it, where nothing else is wrong
pub block_near : (items : List Raw) (block : Block) (terms : Trees) (others : List Message) → IsResolvedOf items block → terms ≡ numbered_all 0 (plans_of block.terms.items) → others ≡ others_in items → others ≡ [] → AreNear terms
block_near items block terms others h is are none =
    let nothing : others_in items ≡ [] = sym are ∙ none in
    subst AreNear (sym (same_terms items block terms h is)) (terms_are_near items (none_of_others items nothing).statements)

-- and shaped, where nothing else is wrong
pub block_shaped : (items : List Raw) (block : Block) (terms : Trees) (others : List Message) → errors_at items ≡ [] → IsResolvedOf items block → IsKeptSource (writtens items) → terms ≡ numbered_all 0 (plans_of block.terms.items) → others ≡ others_in items → others ≡ []
    → AreShaped (named_all (without_switches (formed_all terms)))
block_shaped items block terms others e h k is are none =
    let nothing : others_in items ≡ [] = sym are ∙ none in
    subst (λ ts. AreShaped (named_all (without_switches (formed_all ts)))) (sym (same_terms items block terms h is)) (core_is_shaped items e (none_of_others items nothing).statements (none_of_others items nothing).layouts k)

same_fields : (items : List Raw) (block : Block) → IsResolvedOf items block → fields_of block ≡ fields_in items
same_fields items block h = cc (h.signature, h.revision, h.oem_id, h.table_id, h.oem_revision)

same_own : (items : List Raw) (block : Block) → IsResolvedOf items block → block.file ≡ own_in items
same_own items block h = h.file

same_place : (items : List Raw) (block : Block) → IsResolvedOf items block → block.place ≡ block_place (writtens items)
same_place items block h = h.place

-- the places of its core's terms
same_places : (items : List Raw) (block : Block) → IsResolvedOf items block → core_places (plans_of block.terms.items) ≡ core_places (plans_in items)
same_places items block h = ap core_places h.terms

-- what of it cannot be lowered is what cannot of its source
same_unlowered : (style : Style) (items : List Raw) (block : Block) (terms : Trees) → IsResolvedOf items block → terms ≡ numbered_all 0 (plans_of block.terms.items) → unlowered style (fields_of block) block.place terms (plans_of block.terms.items) ≡ unlowered_in style items
same_unlowered style items block terms h is =
    ap (λ f. unlowered style f block.place terms (plans_of block.terms.items)) (same_fields items block h)
    ∙ ap (λ p. unlowered style (fields_in items) p terms (plans_of block.terms.items)) (same_place items block h)
    ∙ ap (λ ts. unlowered style (fields_in items) (block_place (writtens items)) ts (plans_of block.terms.items)) (same_terms items block terms h is)
    ∙ ap (unlowered style (fields_in items) (block_place (writtens items)) (terms_in items)) h.terms

-- and it comes to what its source comes to
pub block_comes : (style : Style) (lines : List Line) (items : List Raw) (block : Block) (terms : Trees) (inner : List Place) (names statements few : List Message) (it : Outcome) → IsResolvedOf items block → terms ≡ numbered_all 0 (plans_of block.terms.items)
    → inner ≡ core_places (plans_of block.terms.items) → names ≡ told_in items → statements ≡ others_in items → few ≡ unlowered style (fields_of block) block.place terms (plans_of block.terms.items)
    → it ≡ of_terms style lines block.place inner block.file (fields_of block) names statements few (described_in items) terms → it ≡ outcome_in style lines items
block_comes style lines items block terms inner names statements few it h is places told are lacks comes =
    let at = block_place (writtens items) in
    let core = core_places (plans_in items) in
    comes
    ∙ ap (λ p. of_terms style lines p inner block.file (fields_of block) names statements few (described_in items) terms) (same_place items block h)
    ∙ ap (λ ps. of_terms style lines at ps block.file (fields_of block) names statements few (described_in items) terms) (places ∙ same_places items block h)
    ∙ ap (λ own. of_terms style lines at core own (fields_of block) names statements few (described_in items) terms) (same_own items block h)
    ∙ ap (λ f. of_terms style lines at core (own_in items) f names statements few (described_in items) terms) (same_fields items block h)
    ∙ ap (λ ns. of_terms style lines at core (own_in items) (fields_in items) ns statements few (described_in items) terms) told
    ∙ ap (λ ss. of_terms style lines at core (own_in items) (fields_in items) (told_in items) ss few (described_in items) terms) are
    ∙ ap (λ fs. of_terms style lines at core (own_in items) (fields_in items) (told_in items) (others_in items) fs (described_in items) terms) (lacks ∙ same_unlowered style items block terms h is)
    ∙ ap (of_terms style lines at core (own_in items) (fields_in items) (told_in items) (others_in items) (unlowered_in style items) (described_in items)) (same_terms items block terms h is)

-- a block in whose names nothing is wrong
pub right_comes : (r : Result Outcome AllocError) (errors : List Message) (it : Outcome) → errors ≡ [] → IfOk r (λ made. made ≡ it) → IfOk r (λ made. made ≡ unless_wrong errors it)
right_comes (Ok made) errors it e h = right_is errors made it e h
right_comes (Err error) errors it e h = tt

-- what these parts of a block come to
abbrev part_table : Style → List Line → Place → List Place → List ℕ → HeaderFields → (also : AbsolutePath → Bool) → Trees → Outcome
part_table style lines place inner file fields also terms = of_table place fields.signature file (table_with style fields also terms) (its_pieces style lines (place ∷ inner) fields also terms)

-- a block with the place, the places, the file and the header of another
pub like_another : (style : Style) (lines : List Line) (r : Result Outcome AllocError) (place other : Place) (inner places : List Place) (file own : List ℕ) (fields header : HeaderFields) (also : AbsolutePath → Bool) (terms : Trees) → place ≡ other → inner ≡ places → file ≡ own → fields ≡ header
    → IfOk r (λ it. it ≡ of_table place fields.signature file (table_with style fields also terms) (its_pieces style lines (place ∷ inner) fields also terms))
    → IfOk r (λ it. it ≡ of_table other header.signature own (table_with style header also terms) (its_pieces style lines (other ∷ places) header also terms))
like_another style lines r place other inner places file own fields header also terms p i f h e =
    subst (λ p. IfOk r (λ it. it ≡ part_table style lines p places own header also terms)) p
    (subst (λ i. IfOk r (λ it. it ≡ part_table style lines place i own header also terms)) i
    (subst (λ f. IfOk r (λ it. it ≡ part_table style lines place inner f header also terms)) f
    (subst (λ (h : HeaderFields). IfOk r (λ it. it ≡ part_table style lines place inner file h also terms)) h e)))

-- errors of the form
shape_told : (messages errors : List Message) (it : Compiled) → (messages ≡ errors) × (errors ≡ [] → ⊥) → Refused messages ≡ unless_refused errors it
shape_told messages [] it h = absurd (h.1 refl)
shape_told messages (m ∷ ms) it h = ap Refused h.0

pub shape_comes : (stage : Stage) (messages errors : List Message) (it : Compiled) → ShapeRefuses stage errors → stage ≡ Refused' messages → Refused messages ≡ unless_refused errors it
shape_comes stage messages errors it h e = shape_told messages errors it (subst (λ (s : Stage). ShapeRefuses s errors) e h)
