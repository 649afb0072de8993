-- Nothing is told of regions in terms in which no Field, IndexField or BankField stands.
use Rattle.std.proofs.Common.{◌≡◌, ℕ, ◌+◌, suc, Bool, true, false, List, [], ◌∷◌, ◌++◌, Option, Some, None, refl, sym, subst}
use Rattle.std.specs.Prelude.{◌||◌, ◌&&◌, if◌then◌else◌}
use Rattle.std.proofs.lemmas.Bool.{or_parts}
use Rattle.acpi_values.specs.Paths.{AbsolutePath}
use Rattle.acpi_values.specs.declared.width.Width.{Width}
use Rattle.iasl_messages.specs.declared.message.Message.{Message}
use Rattle.asl_tree.specs.declared.term.Op.{Op}
use Rattle.asl_tree.specs.declared.term.Declaration.TheVariants as Declaration
use Rattle.asl_tree.specs.declared.term.Control.TheVariants as Control
use Rattle.asl_tree.specs.Tree.{At, Tree, Method, Container', Scope, Trees, no_trees, tree, OperationRegion, Field, BankField, If, ElseIf, Else, While, For, Switch, Case, Default}
use Rattle.asl_tree.specs.Names.{declared_path}
use Rattle.asl_meaning.specs.Declarations.{Declarations, scope_path, declare, nothing_declared}
use Rattle.acpi_names.specs.Errors.{Whole, whole_of}
use Rattle.acpi_names.specs.declared.part.NameRole.{NameRole}
use Rattle.acpi_names.specs.declared.part.NameRole.TheVariants as P
use Rattle.acpi_names.specs.declared.part.What.TheVariants as W
use Rattle.acpi_names.specs.Parts.{are, is_there, name_at, number_at, fitting, with_number, external_part, part_of}
use Rattle.term_plans.specs.Plans.{Plan, a_form, Plans, no_plans, plan, plan_at}
use Rattle.asl_numbers.specs.Numbers.{inside, nodes, numbered, numbered_all}
use Rattle.field_checks.specs.Lists.{term_errors}
use Rattle.form_presence.specs.Present.{is_field, has_op, have_op}
use Rattle.region_checks.specs.declared.measure.Extent.{Extent}
use Rattle.region_checks.specs.declared.measure.Extent.TheVariants as M
use Rattle.region_checks.specs.Measures.{measures, measures_all, part_measures}
use Rattle.region_checks.specs.Regions.{sizes, all_site_errors, region_errors}
use Rattle.region_checks.specs.Sites.{Site, RegionAt, FieldIn, body_of, rest_of, sites, sites_all}
use Rattle.region_checks.proofs.Forms.{measured_form}

-- ---- parts of forms

abbrev NotUnits : NameRole → Type 0
NotUnits (P.Units over) = ⊥
NotUnits part = Unit {0}

fits : (b : Bool) (part : NameRole) → NotUnits part → NotUnits (fitting b part)
fits true part h = h
fits false part h = tt

numbers : (o : Option ℕ) (part : ℕ → NameRole) → ((n : ℕ) → NotUnits (part n)) → NotUnits (with_number o part)
numbers None part h = tt
numbers (Some n) part h = h n

where_true : (b : Bool) (part : NameRole) → NotUnits part → NotUnits (if b then part else P.Nothing)
where_true true part h = h
where_true false part h = tt

external_no_units : (args body : Trees) (type : ℕ) → NotUnits (external_part args body type)
external_no_units args body type = by_two (are 2 args)
  where
    by_two : (b : Bool) → NotUnits (if b then fitting (are 0 body) (P.External type None) else with_number (number_at 2 args) (λ n. fitting (are 3 args && are 0 body) (P.External type (Some n))))
    by_two true = fits (are 0 body) (P.External type None) tt
    by_two false = numbers (number_at 2 args) _ (λ n. fits (are 3 args && are 0 body) (P.External type (Some n)) tt)

-- what is no field by its operator has no units
no_units : (op : Op) (args body : Trees) → is_field op ≡ false → NotUnits (part_of op args body)
no_units (Op.Declaration Declaration.Name) args body e = fits _ (P.Declares 0 W.Data false) tt
no_units (Op.Declaration Declaration.Alias) args body e = fits _ P.Alias tt
no_units (Op.Declaration Declaration.External) args body e = where_true (is_there (name_at 0 args)) _ (numbers (number_at 1 args) _ (λ n. external_no_units args body n))
no_units (Op.Declaration Declaration.Method) args body e = where_true (is_there (name_at 0 args)) _ (numbers (number_at 1 args) _ (λ n. fits (are 2 args) (P.Declares 0 (W.Method n) true) tt))
no_units (Op.Declaration Declaration.Mutex) args body e = where_true (is_there (name_at 0 args)) _ (numbers (number_at 1 args) _ (λ n. fits (are 2 args && are 0 body) (P.Declares 0 (W.Mutex n) false) tt))
no_units (Op.Declaration Declaration.Event) args body e = fits _ (P.Declares 0 W.Event false) tt
no_units (Op.Declaration Declaration.Device) args body e = fits _ (P.Declares 0 W.Device true) tt
no_units (Op.Declaration Declaration.ThermalZone) args body e = fits _ (P.Declares 0 W.ThermalZone true) tt
no_units (Op.Declaration Declaration.PowerResource) args body e = where_true (is_there (name_at 0 args)) _ (numbers (number_at 1 args) _ (λ n. numbers (number_at 2 args) _ (λ m. fits (are 3 args) (P.Declares 0 (W.PowerResource n m) true) tt)))
no_units (Op.Declaration Declaration.Processor) args body e = where_true (is_there (name_at 0 args)) _ (numbers (number_at 1 args) _ (λ n. numbers (number_at 2 args) _ (λ m. numbers (number_at 3 args) _ (λ k. fits (are 4 args) (P.Declares 0 (W.Processor n m k) true) tt))))
no_units (Op.Declaration Declaration.Scope) args body e = fits _ P.Scope tt
no_units (Op.Declaration Declaration.OperationRegion) args body e = where_true (is_there (name_at 0 args)) _ (numbers (number_at 1 args) _ (λ n. fits (are 4 args && are 0 body) (P.Declares 0 (W.Region n) false) tt))
no_units (Op.Declaration Declaration.CreateField) args body e = fits _ (P.Declares 3 W.BufferField false) tt
no_units (Op.Declaration Declaration.CreateBitField) args body e = fits _ (P.Declares 2 W.BufferField false) tt
no_units (Op.Declaration Declaration.CreateByteField) args body e = fits _ (P.Declares 2 W.BufferField false) tt
no_units (Op.Declaration Declaration.CreateWordField) args body e = fits _ (P.Declares 2 W.BufferField false) tt
no_units (Op.Declaration Declaration.CreateDWordField) args body e = fits _ (P.Declares 2 W.BufferField false) tt
no_units (Op.Declaration Declaration.CreateQWordField) args body e = fits _ (P.Declares 2 W.BufferField false) tt
no_units (Op.Declaration Declaration.Field) args body e = absurd cc
no_units (Op.Declaration Declaration.IndexField) args body e = absurd cc
no_units (Op.Declaration Declaration.BankField) args body e = absurd cc
no_units (Op.Control Control.If) args body e = fits _ P.Within tt
no_units (Op.Control Control.ElseIf) args body e = fits _ P.Within tt
no_units (Op.Control Control.Else) args body e = fits _ P.Within tt
no_units (Op.Control Control.While) args body e = fits _ P.Within tt
no_units (Op.Control Control.For) args body e = fits _ P.Within tt
no_units (Op.Control Control.Switch) args body e = fits _ P.Within tt
no_units (Op.Control Control.Case) args body e = fits _ P.Within tt
no_units (Op.Control Control.Default) args body e = fits _ P.Within tt
no_units (Op.Control Control.Return) args body e = fits _ P.Returns tt
no_units (Op.Control Control.Printf) args body e = fits _ P.Returns tt
no_units (Op.Control Control.Fprintf) args body e = fits _ P.Prints tt
no_units _ args body e = tt

-- ---- lengths of regions alone

abbrev AreSizes : List Extent → Type 0
AreSizes [] = Unit {0}
AreSizes (M.Size size ∷ es) = AreSizes es
AreSizes (M.Access access units ∷ es) = ⊥

both_sizes : (es fs : List Extent) → AreSizes es → AreSizes fs → AreSizes (es ++ fs)
both_sizes [] fs h k = k
both_sizes (M.Size size ∷ es) fs h k = both_sizes es fs h k
both_sizes (M.Access access units ∷ es) fs h k = absurd h

first_sizes : (es fs : List Extent) → AreSizes (es ++ fs) → AreSizes es
first_sizes [] fs h = tt
first_sizes (M.Size size ∷ es) fs h = first_sizes es fs h
first_sizes (M.Access access units ∷ es) fs h = absurd h

other_sizes : (es fs : List Extent) → AreSizes (es ++ fs) → AreSizes fs
other_sizes [] fs h = h
other_sizes (M.Size size ∷ es) fs h = other_sizes es fs h
other_sizes (M.Access access units ∷ es) fs h = absurd h

module _ (width : Width) where
  part_sizes : (part : NameRole) (args body : Trees) (given plans : Plans) (errors : List Message) → NotUnits part → AreSizes (measures_all width body plans) → AreSizes (part_measures width part args body given plans errors)
  part_sizes (P.Declares n (W.Region space) opens) args body given plans errors h k = tt
  part_sizes (P.Declares n what true) args body given plans errors h k = k
  part_sizes (P.Declares n what false) args body given plans errors h k = tt
  part_sizes P.Scope args body given plans errors h k = k
  part_sizes P.Within args body given plans errors h k = k
  part_sizes (P.Units over) args body given plans errors h k = absurd h
  part_sizes part args body given plans errors h k = tt

  mutual
    unfolding numbered numbered_all

    term_sizes : (at : At) (next : ℕ) (p : Plan) → has_op is_field p ≡ false → AreSizes (measures width (numbered at next p) p)
    term_sizes at next (a_form op args body) e =
        let none = or_parts (is_field op) (have_op is_field args || have_op is_field body) e in
        let inner = or_parts (have_op is_field args) (have_op is_field body) none.1 in
        let ts = numbered_all next args in
        let us = numbered_all (next + nodes args) body in
        subst AreSizes (sym (measured_form width at op ts us args body))
        (part_sizes (part_of op ts us) ts us args body (term_errors (a_form op args body)) (no_units op ts us none.0) (all_sizes (next + nodes args) body inner.1))
    term_sizes at next p e = tt

    all_sizes : (next : ℕ) (ps : Plans) → have_op is_field ps ≡ false → AreSizes (measures_all width (numbered_all next ps) ps)
    all_sizes next no_plans e = tt
    all_sizes next (plan place p ps) e =
        let none = or_parts (has_op is_field p) (have_op is_field ps) e in
        let at : At = record { id = next; place = place } in
        both_sizes (measures width (numbered at (suc next) p) p) (measures_all width (numbered_all (suc (next + inside p)) ps) ps) (term_sizes at (suc next) p none.0) (all_sizes (suc (next + inside p)) ps none.1)

-- ---- regions alone

abbrev AreRegions : List Site → Type 0
AreRegions [] = Unit {0}
AreRegions (RegionAt path size ∷ ss) = AreRegions ss
AreRegions (FieldIn here region scope access units ∷ ss) = ⊥

both_regions : (xs ys : List Site) → AreRegions xs → AreRegions ys → AreRegions (xs ++ ys)
both_regions [] ys h k = k
both_regions (RegionAt path size ∷ xs) ys h k = both_regions xs ys h k
both_regions (FieldIn here region scope access units ∷ xs) ys h k = absurd h

module _ (width : Width) where
  mutual
    term_regions : (t : Tree) (p : Plan) (scope : AbsolutePath) (d : Declarations) → AreSizes (measures width t p) → AreRegions (sites width t p scope d)
    term_regions (OperationRegion at name space args) p scope d h = tt
    term_regions (Field here from region flags items) p scope d h = absurd h
    term_regions (BankField here from region to bank value flags items) p scope d h = absurd h
    term_regions (Method at name flags body) p scope d h = all_regions body (body_of p) (declared_path name scope) _ h
    term_regions (Container' kind at name body) p scope d h = all_regions body (body_of p) (declared_path name scope) _ h
    term_regions (Scope here at name body) p scope d h = all_regions body (body_of p) (scope_path d name scope) d h
    term_regions (If test body) p scope d h = all_regions body (body_of p) scope d h
    term_regions (ElseIf test body) p scope d h = all_regions body (body_of p) scope d h
    term_regions (Else body) p scope d h = all_regions body (body_of p) scope d h
    term_regions (While test body) p scope d h = all_regions body (body_of p) scope d h
    term_regions (For start test step body) p scope d h = all_regions body (body_of p) scope d h
    term_regions (Switch value cases) p scope d h = all_regions cases (body_of p) scope d h
    term_regions (Case value body) p scope d h = all_regions body (body_of p) scope d h
    term_regions (Default body) p scope d h = all_regions body (body_of p) scope d h
    term_regions t p scope d h = tt

    all_regions : (ts : Trees) (ps : Plans) (scope : AbsolutePath) (d : Declarations) → AreSizes (measures_all width ts ps) → AreRegions (sites_all width ts ps scope d)
    all_regions no_trees ps scope d h = tt
    all_regions (tree t ts) ps scope d h =
        let own = measures width t (plan_at ps 0) in
        let others = measures_all width ts (rest_of ps) in
        both_regions (sites width t (plan_at ps 0) scope d) (sites_all width ts (rest_of ps) scope (declare t scope d)) (term_regions t (plan_at ps 0) scope d (first_sizes own others h)) (all_regions ts (rest_of ps) scope (declare t scope d) (other_sizes own others h))

nothing_of_regions : (whole : Whole) (regions : List (AbsolutePath × ℕ)) (ss : List Site) → AreRegions ss → all_site_errors whole regions ss ≡ []
nothing_of_regions whole regions [] h = refl
nothing_of_regions whole regions (RegionAt path size ∷ ss) h = nothing_of_regions whole regions ss h
nothing_of_regions whole regions (FieldIn here region scope access units ∷ ss) h = absurd h

-- nothing is told where no field stands
pub none_told : (width : Width) (next : ℕ) (ps : Plans) → have_op is_field ps ≡ false → region_errors width (numbered_all next ps) ps ≡ []
none_told width next ps e =
    let ts = numbered_all next ps in
    let found = sites_all width ts ps [] nothing_declared in
    nothing_of_regions (whole_of ts) (sizes found) found (all_regions width ts ps [] nothing_declared (all_sizes width next ps e))
