-- Two sessions that agree on their load and on each call are the same.
use Rattle.std.proofs.Common.{◌≡◌, Bool, true, false, List, [], ◌∷◌, ◌++◌, length, Option, Some, None, refl, sym, ap, ◌∙◌, subst}
use Rattle.std.specs.Prelude.{nat_eq, if◌then◌else◌}
use Rattle.std.specs.List.{list_any}
use Rattle.acpi_values.specs.Paths.{AbsolutePath, is_same_path}
use Rattle.acpi_values.specs.Values.{Value}
use Rattle.acpi_state.specs.Objects.{Object, MethodObject, ExternalObject, ExternalMethod, ExternalData, ExternalOther, Names, arity_of, root_objects}
use Rattle.acpi_state.specs.Finds.{reached}
use Rattle.acpi_state.specs.State.{State}
use Rattle.acpi_state.specs.Outcomes.{Flow, Faulted, Unfinished, Broken, Result, Done, Stopped, map_result, Outcome, Run, fault}
use Rattle.acpi_state.specs.Sessions.{Report, report, Request, AreWhole, present_ones, initial, call_object, answer_request, unless_unfinished, reports, session}
use Rattle.acpi_state.proofs.Readings.{Any, Ends, EndsExpression, Joint}
use Rattle.asl_tree.specs.Tree.{Trees}
use Rattle.asl_tree.specs.Names.{Known}
pub use Rattle.asl_meaning.specs.Starts.{IsKnownStart}
use Rattle.asl_meaning.proofs.Agreements.{Reading, AreNamed, AreKnownAs, right_state, IsFine, Agree, agree_fault, agree_any, agree_external}

known_parts : (known : Known) (xs ys : Names) → AreKnownAs known (xs ++ ys) → AreKnownAs known xs × AreKnownAs known ys
known_parts known [] ys h = (tt, h)
known_parts known (x ∷ xs) ys h = let r = known_parts known xs ys h.1 in ((h.0, r.0), r.1)

known_append : (known : Known) (xs ys : Names) → AreKnownAs known xs → AreKnownAs known ys → AreKnownAs known (xs ++ ys)
known_append known [] ys h k = k
known_append known (x ∷ xs) ys h k = (h.0, known_append known xs ys h.1 k)

known_present : (known : Known) (xs : Names) (present : List AbsolutePath) → AreKnownAs known xs → AreKnownAs known (present_ones xs present)
known_present known [] present h = tt
known_present known (x ∷ xs) present h = by_there (list_any (is_same_path x.0) present) (known_present known xs present h.1)
  where
    by_there : (c : Bool) → AreKnownAs known (present_ones xs present) → AreKnownAs known (if c then x ∷ present_ones xs present else present_ones xs present)
    by_there true rest = (h.0, rest)
    by_there false rest = rest

pub known_start : (known : Known) (externals : Names) (present : List AbsolutePath) → IsKnownStart known externals → IsKnownStart known (present_ones externals present)
known_start known externals present h =
    let r = known_parts known externals root_objects h in known_append known (present_ones externals present) root_objects (known_present known externals present r.0) r.1

module _ {B : Type 0} (r : Reading B) (call : AbsolutePath → List Value → Run Trees Flow) (call' : AbsolutePath → List Value → Run B Flow) (calls : (path : AbsolutePath) (args : List Value) → Agree r EndsExpression (λ f. f) (call path args) (call' path args)) where
  any_flow : (m : Run Trees Flow) (m' : Run B Flow) → Agree r EndsExpression (λ f. f) m m' → Agree r Any (λ f. f) m m'
  any_flow m m' h = agree_any r h

  agree_if : (c : Bool) (m : Run Trees Flow) (m' : Run B Flow) (f : _) → Agree r Any (λ f. f) m m' → Agree r Any (λ f. f) (if c then m else fault f) (if c then m' else fault f)
  agree_if true m m' f h = h
  agree_if false m m' f h = agree_fault r Any (λ f. f) f

  agree_object : (o : Option (AbsolutePath × Object)) (args : List Value) → Agree r Any (λ f. f) (call_object o call args) (call_object o call' args)
  agree_object None args = agree_fault r Any (λ f. f) _
  agree_object (Some (path, MethodObject flags)) args = agree_if (nat_eq (arity_of flags) (length args)) _ _ _ (any_flow _ _ (calls path args))
  agree_object (Some (path, ExternalObject (ExternalMethod arity))) args = agree_if (nat_eq arity (length args)) _ _ _ (any_flow _ _ (agree_external r path args))
  agree_object (Some (path, ExternalObject (ExternalData type))) args = agree_fault r Any (λ f. f) _
  agree_object (Some (path, ExternalObject (ExternalOther type))) args = agree_fault r Any (λ f. f) _
  agree_object (Some (path, _)) args = agree_fault r Any (λ f. f) _

  abbrev Pair : Outcome Trees Flow → Outcome B Flow → Type 0
  Pair o o' = Joint (λ j. j) (right_state r) (IsFine r) (λ f s. Any f × IsFine r s) (λ f. f) o o'

  -- one report and those after it
  abbrev Source : List Request → Outcome Trees Flow → List Report
  Source requests o = report o.result o.state ∷ unless_unfinished o.result (reports call requests o.state)

  abbrev Other : List Request → Outcome B Flow → List Report
  Other requests o = report o.result o.state ∷ unless_unfinished o.result (reports call' requests o.state)

  same_report : (result : Result Flow) (s : State Trees) (rest rest' : List Report) → rest ≡ rest' → report result s ∷ unless_unfinished result rest ≡ report (map_result (λ f. f) result) (right_state r s) ∷ unless_unfinished (map_result (λ f. f) result) rest'
  same_report (Done f) s rest rest' e = ap (λ rs. report (Done f) s ∷ rs) e
  same_report (Stopped Unfinished) s rest rest' e = refl
  same_report (Stopped Broken) s rest rest' e = ap (λ rs. report (Stopped Broken) s ∷ rs) e
  same_report (Stopped (Faulted f)) s rest rest' e = ap (λ rs. report (Stopped (Faulted f)) s ∷ rs) e

  whole_report : (result : Result Flow) (s : State Trees) (rest : List Report) → Ends (λ j. j) (right_state r) (IsFine r) (λ f t. Any f × IsFine r t) result s → AreWhole rest → AreWhole (report result s ∷ unless_unfinished result rest)
  whole_report (Done f) s rest h w = (tt, w)
  whole_report (Stopped Unfinished) s rest h w = (tt, tt)
  whole_report (Stopped Broken) s rest h w = absurd h.0
  whole_report (Stopped (Faulted f)) s rest h w = (tt, w)

  fine_end : (result : Result Flow) (s : State Trees) → Ends (λ j. j) (right_state r) (IsFine r) (λ f t. Any f × IsFine r t) result s → IsFine r s
  fine_end (Done f) s h = h.1
  fine_end (Stopped x) s h = h.1

  abbrev SameReports : List Report → List Report → Type 0
  SameReports rs rs' = (rs ≡ rs') × AreWhole rs'

  entry : (requests : List Request) (o : Outcome Trees Flow) (o' : Outcome B Flow) (g : Pair o o') → SameReports (reports call requests g.end) (reports call' requests (right_state r g.end)) → SameReports (Source requests o) (Other requests o')
  entry requests o o' g t =
      let rest = reports call requests g.end in
      let rest' = reports call' requests (right_state r g.end) in
      let one : Source requests o ≡ report g.result g.end ∷ unless_unfinished g.result rest = ap (Source requests) g.left_is in
      let two : report g.result g.end ∷ unless_unfinished g.result rest ≡ report (map_result (λ f. f) g.result) (right_state r g.end) ∷ unless_unfinished (map_result (λ f. f) g.result) rest' = same_report g.result g.end rest rest' t.0 in
      let three : Other requests o' ≡ report (map_result (λ f. f) g.result) (right_state r g.end) ∷ unless_unfinished (map_result (λ f. f) g.result) rest' = ap (Other requests) g.right_is in
      let same : Source requests o ≡ Other requests o' = one ∙ two ∙ sym three in
      let whole : AreWhole (Source requests o) = subst AreWhole (sym one) (whole_report g.result g.end rest g.holds (subst AreWhole (sym t.0) t.1)) in
      (same, subst AreWhole same whole)

  same_reports : (requests : List Request) (s : State Trees) → IsFine r s → SameReports (reports call requests s) (reports call' requests (right_state r s))
  same_reports [] s fine = (refl, tt)
  same_reports (request ∷ requests) s fine =
      let g = (agree_object (reached s.names request.path) request.args).same.by s fine in
      entry requests (answer_request call request s) (answer_request call' request (right_state r s)) g
      (same_reports requests g.end (fine_end g.result g.end g.holds))

  -- what two sessions report that agree on their load and on each call
  pub same_session : (load : Run Trees Flow) (load' : Run B Flow) → Agree r Any (λ f. f) load load' → (there : Names) (answers : List Value) (requests : List Request) → AreNamed r.IsNamed (there ++ root_objects) →
      SameReports (session load call (initial there answers) requests) (session load' call' (initial there answers) requests)
  same_session load load' h there answers requests named =
      let g = h.same.by (initial there answers) (record { names = named; bodies = tt }) in
      entry requests (load (initial there answers)) (load' (initial there answers)) g (same_reports requests g.end (fine_end g.result g.end g.holds))
