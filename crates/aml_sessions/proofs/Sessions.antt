-- The sessions of ready terms and of their bytes are the same.
use Rattle.std.proofs.Common.{◌≡◌, ℕ, ◌+◌, ◌<◌, ◌^◌, Bool, false, List, [], length, sym, ap, ◌∙◌, subst, le_refl}
use Rattle.acpi_values.specs.declared.width.Width.{Width}
use Rattle.acpi_values.specs.Values.{Value}
use Rattle.acpi_state.specs.Objects.{Names}
use Rattle.acpi_state.specs.Sessions.{Report, Request, AreWhole, present_ones, initial, session}
use Rattle.asl_tree.specs.Tree.{Trees}
use Rattle.asl_tree.specs.Names.{Known}
use Rattle.asl_meaning.specs.Meaning as S
use Rattle.asl_meaning.specs.SourceSession.{source_session}
use Rattle.asl_meaning.proofs.SameSessions as Same
use Rattle.asl_meaning.proofs.SameSessions.{IsKnownStart, known_start}
use Rattle.else_runs.specs.Runs.{nested_all}
use Rattle.else_runs.proofs.Nested.{same_nested}
use Rattle.aml_meaning.specs.Encoded.{encoded_all, encoded_terms}
use Rattle.aml_meaning.specs.ByteMeaning as B
use Rattle.aml_meaning.specs.ByteSession.{definition_bytes, width_in, byte_session, IsFaithful}
use Rattle.aml_sessions.specs.Ready.{AreReady}
use Rattle.aml_sessions.proofs.Bodies.{Setting, as_bytes}
use Rattle.aml_sessions.proofs.Walks.{agree_terms, agree_call}

module _ (given : Setting) where
  -- the session of bytes that stand behind no header
  abbrev Bytes : List ℕ → Names → ℕ → List Value → List Request → List Report
  Bytes bytes there n answers requests =
      session (B.walk_list given.width n (B.call_method given.width n n) bytes []) (B.call_method given.width n n) (initial there answers) requests

  -- of bytes of this width it is the whole session
  as_given : (bytes content : List ℕ) → width_in bytes ≡ given.width → definition_bytes bytes ≡ content → (there : Names) (n : ℕ) (answers : List Value) (requests : List Request) →
      byte_session bytes there n answers requests ≡ Bytes content there n answers requests
  as_given bytes content wide is there n answers requests =
      ap (λ w. session (B.walk_list w n (B.call_method w n n) (definition_bytes bytes) []) (B.call_method w n n) (initial there answers) requests) wide
      ∙ ap (λ bs. Bytes bs there n answers requests) is

  same_session : (terms : Trees) → AreReady ⊥ given.known terms [] → length (encoded_all given.width given.short terms) + 4 < 2 ^ 28 → (there : Names) → IsKnownStart given.known there → (n : ℕ) (answers : List Value) (requests : List Request) →
      (source_session given.width given.known terms there n answers requests ≡ Bytes (encoded_all given.width given.short terms) there n answers requests) × AreWhole (Bytes (encoded_all given.width given.short terms) there n answers requests)
  same_session terms ready fits there start n answers requests =
      let size = length (encoded_all given.width given.short terms) in
      Same.same_session (as_bytes given) (S.call_method given.width given.known n n) (B.call_method given.width n n) (agree_call given n n) _ _
      (agree_terms given n (S.call_method given.width given.known n n) (B.call_method given.width n n) (agree_call given n n) terms [] false size size ready (le_refl _) (le_refl _) fits) there answers requests start

-- bytes of that width whose definition is the encoding of terms that are ready once their runs are nested are faithful to them
pub faithful : (width : Width) (known : Known) (short : Bool) (externals : Names) (terms : Trees) (bytes : List ℕ) → IsKnownStart known externals → AreReady ⊥ known (nested_all terms) [] → width_in bytes ≡ width → length (encoded_terms width short terms) + 4 < 2 ^ 28 → definition_bytes bytes ≡ encoded_terms width short terms
    → IsFaithful width known externals terms bytes
faithful width known short externals terms bytes start ready wide fits is =
    let given : Setting = record { width = width; known = known; short = short } in
    record {
      same = λ present n answers requests asked.
          let there = present_ones externals present in
          sym (same_nested width known terms there n answers requests)
          ∙ (same_session given (nested_all terms) ready fits there (known_start known externals present start) n answers requests).0 ∙ sym (as_given given bytes (encoded_terms width short terms) wide is there n answers requests);
      whole = λ present n answers requests asked.
          let there = present_ones externals present in
          subst AreWhole (sym (as_given given bytes (encoded_terms width short terms) wide is there n answers requests)) (same_session given (nested_all terms) ready fits there (known_start known externals present start) n answers requests).1;
    }
