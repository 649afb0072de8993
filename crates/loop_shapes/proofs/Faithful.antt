-- What does as a formed program with loops for its Switches does as the program, if that has Locals enough.
use Rattle.std.proofs.Common.{◌≡◌, ℕ, zero, suc, Bool, true, false, List, [], ◌∷◌, sym, ◌∙◌, subst, arith}
use Rattle.std.specs.Prelude.{if◌then◌else◌}
use Rattle.std.specs.List.{list_any}
use Rattle.acpi_values.specs.declared.width.Width.{Width}
use Rattle.acpi_values.specs.Paths.{AbsolutePath, is_same_path}
use Rattle.acpi_values.specs.Values.{Value}
use Rattle.acpi_state.specs.Asked.{IsAsked}
use Rattle.acpi_state.specs.Objects.{ExternalObject, lookup}
use Rattle.acpi_state.specs.Sessions.{Request, present_ones}
use Rattle.asl_tree.specs.FieldItems.{FieldItem}
use Rattle.asl_tree.specs.Names.{Known}
use Rattle.asl_tree.specs.Tree.{Trees, UnitName}
use Rattle.asl_meaning.specs.Declarations.{ExternalType, nothing_declared, is_named, declarations, calls_all, called, external_object, external_names, externals, known_of}
use Rattle.asl_meaning.specs.SourceSession.{source_session}
use Rattle.aml_meaning.specs.ByteSession.{IsFaithful}
use Rattle.named_sessions.specs.Shaped.{AreFormed}
use Rattle.hidden_locals.specs.Locals.{name_local}
use Rattle.hidden_locals.specs.Programs.{start_in}
use Rattle.hidden_locals.specs.Switches.{without_switches, HaveLocals}
use Rattle.hidden_locals.specs.Worlds.{World, ClearNames}
use Rattle.hidden_locals.proofs.Unswitched.{same_unswitched}
use Rattle.loop_shapes.proofs.Names.{same_externals, same_known}
use Rattle.loop_shapes.proofs.Unswitchable.{unswitchable}

-- objects of other tables lead to no Local
externals_clear : (w : World) (calls : List (AbsolutePath × ℕ)) (entries : List (AbsolutePath × ExternalType)) (present : List AbsolutePath) → ClearNames w (present_ones (external_names calls entries) present)
externals_clear w calls [] present = tt
externals_clear w calls (entry ∷ entries) present = by (list_any (is_same_path entry.0) present) (externals_clear w calls entries present)
  where
    by : (b : Bool) → ClearNames w (present_ones (external_names calls entries) present)
        → ClearNames w (if b then (entry.0, ExternalObject (external_object entry.1 (lookup calls entry.0))) ∷ present_ones (external_names calls entries) present else present_ones (external_names calls entries) present)
    by true h = (tt, h)
    by false h = h

module _ (Listed : List (FieldItem UnitName) → Type 0) (Symbols Switches : Type 0) (program : Trees) (h : AreFormed ⊥ Listed Symbols Switches program) (locals : HaveLocals program) where
  pub same_sessions : (width : Width) (known : Known) (present : List AbsolutePath) (n : ℕ) (answers : List Value) (requests : List Request) → IsAsked width n answers requests
      → source_session width known (without_switches program) (present_ones (externals program) present) n answers requests ≡ source_session width known program (present_ones (externals program) present) n answers requests
  same_sessions width known present zero answers requests asked = absurd (omega (arith, asked.turns))
  same_sessions width known present (suc n) answers requests asked =
      same_unswitched width known n program (unswitchable Listed Symbols Switches program h locals) (present_ones (externals program) present) answers requests
      (externals_clear (start_in (name_local program)) (called (calls_all (is_named (declarations program)) program [] nothing_declared)) (declarations program).external present) asked

  pub does_unswitched : (width : Width) (bytes : List ℕ) → IsFaithful width (known_of (without_switches program)) (externals (without_switches program)) (without_switches program) bytes → IsFaithful width (known_of program) (externals program) program bytes
  does_unswitched width bytes faithful =
      let loops : Trees = without_switches program in
      let known : IsFaithful width (known_of program) (externals loops) loops bytes
      = subst (λ known. IsFaithful width known (externals loops) loops bytes) (same_known Listed Symbols Switches program h) faithful in
      let both : IsFaithful width (known_of program) (externals program) loops bytes
      = subst (λ names. IsFaithful width (known_of program) names loops bytes) (same_externals Listed Symbols Switches program h) known in
      record {
        same = λ present n answers requests asked. sym (same_sessions width (known_of program) present n answers requests asked) ∙ both.same present n answers requests asked;
        whole = both.whole;
      }
