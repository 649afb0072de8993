-- Sessions of programs whose bodies do the same but for hidden Locals.
use Rattle.std.proofs.Common.{◌≡◌, ℕ, zero, suc, Bool, false, List, [], ◌∷◌, ◌++◌, length, Option, Some, None, refl, sym, ap, ◌∙◌, arith}
use Rattle.std.specs.Prelude.{nat_eq}
use Rattle.acpi_values.specs.declared.width.Width.{Width}
use Rattle.acpi_values.specs.Paths.{AbsolutePath}
use Rattle.acpi_values.specs.Values.{Value, Data, Package, Reference, Elements, no_elements, uninitialized, element, Place, Named, LocalOf, ArgOf, ElementAt, ElementOf}
use Rattle.acpi_state.specs.Objects.{Object, MethodObject, ExternalObject, ExternalMethod, ExternalData, ExternalOther, Names, arity_of, root_objects}
use Rattle.acpi_state.specs.Finds.{reached}
use Rattle.acpi_state.specs.State.{Frame}
use Rattle.acpi_state.specs.Outcomes.{Flow, Faulted, Unfinished, Broken, Result, Done, Stopped, map_result, Outcome, Run}
use Rattle.acpi_state.specs.Activations.{activation}
use Rattle.acpi_state.specs.Asked.{IsArgument, AreMembers, IsOutside, IsAnswer, AreAnswered, AreAnswers, AreArguments, AreRequests, IsAsked}
use Rattle.acpi_state.specs.Sessions.{Report, report, Request, initial, call_object, answer_request, unless_unfinished, reports, session}
use Rattle.asl_tree.specs.Names.{Known}
use Rattle.asl_tree.specs.Tree.{Trees}
use Rattle.asl_meaning.specs.Meaning.{run_all, call_method}
use Rattle.asl_meaning.specs.SourceSession.{source_session}
use Rattle.hidden_locals.specs.Worlds.{World, Clear, AreClear, ClearPlace, ClearAll, ClearFlow, ClearNames, begun_in}
use Rattle.hidden_locals.specs.Runs.{Veiled, Reach, Everywhere, Outside, left, right, IsFine, Joint, From}
use Rattle.hidden_locals.specs.Terms.{UseShown}
use Rattle.hidden_locals.specs.Programs.{start_in, CallAlike, DoesAs}
use Rattle.hidden_locals.proofs.Worlds.{same_world, all_later, shows_begun}
use Rattle.hidden_locals.proofs.Runs.{from_stop, from_fault, from_then, from_if}
use Rattle.hidden_locals.proofs.Calls.{new_veiled, none_clear, from_activation, from_body, from_external}
use Rattle.hidden_locals.proofs.Terms.{lists}
use Rattle.asl_meaning.proofs.Lasting.{lasting_call}

-- answers and arguments are clear in every world
module _ (width : Width) (w : World) where
  mutual
    answer_clear : (v : Value) → IsAnswer width v → Clear w v
    answer_clear (Data datum) h = tt
    answer_clear (Package es) h = answered_clear es h
    answer_clear (Reference place) h = absurd h

    answered_clear : (es : Elements) → AreAnswered width es → AreClear w es
    answered_clear no_elements h = tt
    answered_clear (uninitialized rest) h = absurd h
    answered_clear (element v rest) h = (answer_clear v h.0, answered_clear rest h.1)

  mutual
    argument_clear : (v : Value) → IsArgument width v → Clear w v
    argument_clear (Data datum) h = tt
    argument_clear (Package es) h = members_clear es h
    argument_clear (Reference place) h = outside_clear place h

    members_clear : (es : Elements) → AreMembers width es → AreClear w es
    members_clear no_elements h = tt
    members_clear (uninitialized rest) h = members_clear rest h
    members_clear (element v rest) h = (argument_clear v h.0, members_clear rest h.1)

    outside_clear : (place : Place) → IsOutside width place → ClearPlace w place
    outside_clear (Named path) h = tt
    outside_clear (LocalOf n i) h = absurd h
    outside_clear (ArgOf n i) h = absurd h
    outside_clear (ElementAt place i) h = outside_clear place h
    outside_clear (ElementOf v i) h = argument_clear v h

  answers_clear : (vs : List Value) → AreAnswers width vs → ClearAll w vs
  answers_clear [] h = tt
  answers_clear (v ∷ vs) h = (answer_clear v h.0, answers_clear vs h.1)

  arguments_clear : (vs : List Value) → AreArguments width vs → ClearAll w vs
  arguments_clear [] h = tt
  arguments_clear (v ∷ vs) h = (argument_clear v h.0, arguments_clear vs h.1)

names_append : (w : World) (xs ys : Names) → ClearNames w xs → ClearNames w ys → ClearNames w (xs ++ ys)
names_append w [] ys h k = k
names_append w (x ∷ xs) ys h k = (h.0, names_append w xs ys h.1 k)

root_clear : (w : World) → ClearNames w root_objects
root_clear w = (tt, (tt, (tt, (tt, (tt, (tt, (tt, (tt, (tt, tt)))))))))

module _ (convert : Trees → Trees) (IsKept : Trees → Type 0) where
  from_object : (call call' : AbsolutePath → List Value → Run Trees Flow) → CallAlike convert IsKept call call' → (w : World) (o : Option (AbsolutePath × Object)) (args : List Value) → ClearAll w args → From convert IsKept Everywhere w ClearFlow (λ f. f) (call_object o call args) (call_object o call' args)
  from_object call call' calls w None args h = from_fault convert IsKept Everywhere w ClearFlow (λ f. f) _
  from_object call call' calls w (Some (path, MethodObject flags)) args h = from_if convert IsKept Everywhere w ClearFlow (λ f. f) (nat_eq (arity_of flags) (length args)) (calls w path args h) (from_fault convert IsKept Everywhere w ClearFlow (λ f. f) _)
  from_object call call' calls w (Some (path, ExternalObject (ExternalMethod arity))) args h = from_if convert IsKept Everywhere w ClearFlow (λ f. f) (nat_eq arity (length args)) (from_external convert IsKept Everywhere w path args) (from_fault convert IsKept Everywhere w ClearFlow (λ f. f) _)
  from_object call call' calls w (Some (path, ExternalObject (ExternalData type))) args h = from_fault convert IsKept Everywhere w ClearFlow (λ f. f) _
  from_object call call' calls w (Some (path, ExternalObject (ExternalOther type))) args h = from_fault convert IsKept Everywhere w ClearFlow (λ f. f) _
  from_object call call' calls w (Some (path, _)) args h = from_fault convert IsKept Everywhere w ClearFlow (λ f. f) _

  module _ (width : Width) (call call' : AbsolutePath → List Value → Run Trees Flow) (calls : CallAlike convert IsKept call call') where
    -- a report and those after it
    abbrev First : List Request → Outcome Trees Flow → List Report
    First requests o = report o.result o.state ∷ unless_unfinished o.result (reports call requests o.state)

    abbrev Second : List Request → Outcome Trees Flow → List Report
    Second requests o = report o.result o.state ∷ unless_unfinished o.result (reports call' requests o.state)

    same_report : (result : Result Flow) (j : Veiled) (rest rest' : List Report) → rest ≡ rest' →
        report result (left convert IsKept j) ∷ unless_unfinished result rest ≡ report (map_result (λ f. f) result) (right convert IsKept j) ∷ unless_unfinished (map_result (λ f. f) result) rest'
    same_report (Done f) j rest rest' e = ap (λ rs. report (Done f) j.state ∷ rs) e
    same_report (Stopped Unfinished) j rest rest' e = refl
    same_report (Stopped Broken) j rest rest' e = ap (λ rs. report (Stopped Broken) j.state ∷ rs) e
    same_report (Stopped (Faulted f)) j rest rest' e = ap (λ rs. report (Stopped (Faulted f)) j.state ∷ rs) e

    entry : (reach : Reach) (requests : List Request) (w : World) (start : List Frame) (o o' : Outcome Trees Flow) → (g : Joint convert IsKept reach ClearFlow (λ f. f) w start o o') → reports call requests (left convert IsKept g.end) ≡ reports call' requests (right convert IsKept g.end) → First requests o ≡ Second requests o'
    entry reach requests w start o o' g e =
        ap (First requests) g.left_is
        ∙ same_report g.result g.end (reports call requests (left convert IsKept g.end)) (reports call' requests (right convert IsKept g.end)) e
        ∙ sym (ap (Second requests) g.right_is)

    same_reports : (requests : List Request) (j : Veiled) → IsFine convert IsKept j → AreRequests width requests → reports call requests (left convert IsKept j) ≡ reports call' requests (right convert IsKept j)
    same_reports [] j fine h = refl
    same_reports (request ∷ requests) j fine h =
        let g = (from_object call call' calls j.world (reached j.state.names request.path) request.args (arguments_clear width j.world request.args h.0)).by j (same_world j.world) fine in
        entry Everywhere requests j.world j.state.store.frames (answer_request call request (left convert IsKept j)) (answer_request call' request (right convert IsKept j)) g (same_reports requests g.end g.fine h.1)

    same_session : (shown : ℕ → Bool) (load load' : Run Trees Flow) → From convert IsKept Outside (start_in shown) ClearFlow (λ f. f) load load' → (there : Names) (answers : List Value) (requests : List Request) → ClearNames (start_in shown) there → AreAnswers width answers → AreRequests width requests →
        session load call (initial there answers) requests ≡ session load' call' (initial there answers) requests
    same_session shown load load' h there answers requests names answered asked =
        let w = start_in shown in
        let start : Veiled = record { world = w; state = initial there answers } in
        let fine : IsFine convert IsKept start = record {
          names = names_append w there root_objects names (root_clear w);
          store = record { values = tt; frames = (none_clear w, tt, omega arith, refl, tt); running = refl; answers = answers_clear width w answers answered };
          begun = refl;
          bodies = tt;
        } in
        let g = h.by start (same_world w) fine in
        let veiled_start : initial there answers ≡ left convert IsKept start = ap (λ f. record (initial {B = Trees} there answers) { store = record (initial {B = Trees} there answers).store { frames = f ∷ [] } }) (sym (new_veiled w 0 [])) in
        ap (λ s. First requests (load s)) veiled_start
        ∙ entry Outside requests w start.state.store.frames (load (left convert IsKept start)) (load' (right convert IsKept start)) g (same_reports requests g.end g.fine asked)

  -- calls do the same, if the bodies do
  module _ (shown_of : Trees → ℕ → Bool) (width : Width) (known : Known) (turns : ℕ) (bodies : (body : Trees) → IsKept body → DoesAs convert IsKept Outside width known turns (shown_of body) body (convert body)) where
    pub from_call : (depth : ℕ) → CallAlike convert IsKept (call_method width known turns depth) (call_method width known turns depth)
    from_call zero w path args h = from_stop convert IsKept Everywhere w ClearFlow (λ f. f) Unfinished
    from_call (suc depth) w path args h =
        from_then convert IsKept Everywhere w ClearFlow (λ f. f) (λ body. activation args (run_all width known turns (call_method width known turns depth) body path false)) (from_body convert IsKept Everywhere w path)
        (λ w' later body kept. from_activation convert IsKept Everywhere w' (shown_of body) args _ _ (λ u after. all_later w' u after.shown args (all_later w w' later.shown args h))
        (λ u after begun. (bodies body kept).by (call_method width known turns depth) (call_method width known turns depth) (from_call depth) (lasting_call width known turns depth) (begun_in (shown_of body) u) (shows_begun (shown_of body) u begun) path false))

-- a program whose terms, and whose bodies, do what those of another do, has the same sessions
pub same_sessions : (convert : Trees → Trees) (IsKept : Trees → Type 0) (shown_of : Trees → ℕ → Bool) (width : Width) (known : Known) (n : ℕ) → ((body : Trees) → IsKept body → DoesAs convert IsKept Outside width known n (shown_of body) body (convert body)) →
    (shown : ℕ → Bool) (terms terms' : Trees) → DoesAs convert IsKept Outside width known n shown terms terms' → (there : Names) (answers : List Value) (requests : List Request) → ClearNames (start_in shown) there → IsAsked width n answers requests →
    source_session width known terms there n answers requests ≡ source_session width known terms' there n answers requests
same_sessions convert IsKept shown_of width known n bodies shown terms terms' h there answers requests names asked =
    let calls = from_call convert IsKept shown_of width known n bodies n in
    same_session convert IsKept width (call_method width known n n) (call_method width known n n) calls shown _ _ (h.by (call_method width known n n) (call_method width known n n) calls (lasting_call width known n n) (start_in shown) (record { begun = (omega arith, tt); exact = λ i. refl }) [] false) there answers requests names asked.answered asked.outside

-- terms that name shown Locals alone do what they do, and keep all that is hidden
pub does_as : (convert : Trees → Trees) (IsKept Unchanged : Trees → Type 0) → ((body : Trees) → Unchanged body → IsKept body × (convert body ≡ body)) → (reach : Reach) (shown : ℕ → Bool) (width : Width) (known : Known) (turns : ℕ) (terms : Trees) → UseShown Unchanged shown terms → DoesAs convert IsKept reach width known turns shown terms terms
does_as convert IsKept Unchanged unchanged reach shown width known turns terms h = record { by = λ call call' calls last w f scope due. lists convert IsKept reach Unchanged unchanged shown width known turns call call' calls terms h w (λ i e. f.exact i ∙ e) scope due }
