-- What the main file comes to.
use Rattle.std.proofs.Common.{◌≡◌, Some, Result, Ok, Err, IfOk, ℕ, ◌+◌, ◌<◌, ◌≤◌, not, cond, List, [], ◌∷◌, length, ap, sym, subst, ◌∙◌, arith}
use Rattle.std.specs.List.{All}
use Rattle.iasl_ports.specs.Fetched.{most_bytes, RefusedAt, RefusedCounts}
use Rattle.iasl_ports.specs.declared.files.FetchFault.{FetchFault}
use Rattle.iasl_ports.specs.declared.files.FetchFault.TheVariants as fetch
use Rattle.iasl_messages.specs.declared.place.Line.{Line}
use Rattle.iasl_messages.specs.declared.message.Message.{Message}
use Rattle.asl_preprocess.specs.declared.define.Define.{Define}
use Rattle.asl_preprocess.specs.declared.main_file.Preprocessed.{Preprocessed as Left}
use Rattle.asl_preprocess.specs.declared.main_file.PreStop.{PreStop}
use Rattle.asl_preprocess.specs.declared.main_file.PreStop.TheVariants as by
use Rattle.std.specs.declared.option.Option.{Option}
use Rattle.std.specs.Option.{ForSome}
use Rattle.iasl_ports.specs.Gained.{Named}
use Rattle.asl_preprocess.specs.declared.stop.ReadingStop.{ReadingStop}
use Rattle.asl_preprocess.specs.declared.stop.ReadingStop.TheVariants.{At, ReadFault, Memory}
use Rattle.asl_preprocess.specs.State.{State, Outcome, number_of}
use Rattle.asl_preprocess.specs.Reached.{StopsAt, Counts}
use Rattle.asl_preprocess.specs.Sound.{IsSound, IsGoodLine, IsGoodNote}
use Rattle.asl_preprocess.specs.Preprocess.{Setting, Preprocessed, Given, Stopped, given, of_main, of_found, of_file, first_state, most_levels, too_large_main}
use Rattle.asl_preprocess.specs.Stops.{IsStop, HasPlace, Causes, MainCauses, Keeps, EndsWith, LacksMain}
use Rattle.asl_preprocess.proofs.Names.{same_itself}
use Rattle.asl_preprocess.proofs.Fetching.{within_is, above_is}

-- the main file has number 0
pub main_number : (name own : List ℕ) → own ≡ name → 0 ≡ number_of own (name ∷ [])
main_number name own e = sym (ap (λ (n : List ℕ). number_of n (name ∷ [])) e ∙ ap (λ b. cond (not b) (1 + 0) 0) (same_itself name))

pub first_sound : (name : List ℕ) (defines : List Define) → IsSound (first_state name defines)
first_sound name defines = record { lines = λ i e lt. absurd (omega arith); notes = λ i e lt. absurd (omega arith) }

module _ (setting : Setting) (name : List ℕ) (defines : List Define) (bytes : List ℕ) where
  pub main_within : length bytes ≤ most_bytes → of_main setting name defines bytes ≡ given (of_file setting most_levels (first_state name defines) name bytes)
  main_within h = ap (λ b. cond b (Stopped too_large_main (name ∷ [])) (given (of_file setting most_levels (first_state name defines) name bytes))) (within_is (length bytes) h)

  pub main_above : most_bytes < length bytes → of_main setting name defines bytes ≡ Stopped too_large_main (name ∷ [])
  main_above h = ap (λ b. cond b (Stopped too_large_main (name ∷ [])) (given (of_file setting most_levels (first_state name defines) name bytes))) (above_is (length bytes) h)

pub good_lines : (files files' : List (List ℕ)) (lines lines' : List Line) → files' ≡ files → lines' ≡ lines → All (IsGoodLine (length files)) lines → All (IsGoodLine (length files')) lines'
good_lines files files' lines lines' e f h =
    let P : List (List ℕ) → Type 0 = λ fs. All (IsGoodLine (length fs)) lines' in
    let Q : List Line → Type 0 = λ ls. All (IsGoodLine (length files)) ls in
    subst P (sym e) (subst Q (sym f) h)

pub good_notes : (files files' : List (List ℕ)) (notes notes' : List Message) → files' ≡ files → notes' ≡ notes → All (IsGoodNote (length files)) notes → All (IsGoodNote (length files')) notes'
good_notes files files' notes notes' e f h =
    let P : List (List ℕ) → Type 0 = λ fs. All (IsGoodNote (length fs)) notes' in
    let Q : List Message → Type 0 = λ ms. All (IsGoodNote (length files)) ms in
    subst P (sym e) (subst Q (sym f) h)

pub given_by : (files files' : List (List ℕ)) (lines lines' : List Line) (notes notes' : List Message) → files' ≡ files → lines' ≡ lines → notes' ≡ notes → Given files lines notes ≡ Given files' lines' notes'
given_by files files' lines lines' notes notes' e f h =
    ap (λ fs. Given fs lines notes) (sym e) ∙ ap (λ ls. Given files' ls notes) (sym f) ∙ ap (λ ms. Given files' lines' ms) (sym h)

pub keeps_stop : (stop : PreStop) (message : Message) (files : List (List ℕ)) (it : Preprocessed) → Keeps stop message files → it ≡ Stopped message files → IsStop stop it
keeps_stop (by.Refused told names) message files it h e = e ∙ ap (λ m. Stopped m files) (sym h.0) ∙ ap (λ fs. Stopped told fs) (sym h.1)
keeps_stop by.Absent message files it h e = absurd h
keeps_stop by.ReadFault message files it h e = absurd h
keeps_stop by.Memory message files it h e = tt

pub keeps_place : (stop : PreStop) (message : Message) (files : List (List ℕ)) → Keeps stop message files → message.place.file < length files → HasPlace stop
keeps_place (by.Refused told names) message files h lt = omega (arith, ap (λ (m : Message). m.place.file) h.0, ap length h.1, lt)
keeps_place by.Absent message files h lt = absurd h
keeps_place by.ReadFault message files h lt = absurd h
keeps_place by.Memory message files h lt = tt

pub keeps_counts : (stop : PreStop) (message : Message) (files : List (List ℕ)) (before now : ℕ) → Keeps stop message files → now ≡ before → MainCauses stop before now
keeps_counts (by.Refused told names) message files before now h e = e
keeps_counts by.Absent message files before now h e = absurd h
keeps_counts by.ReadFault message files before now h e = absurd h
keeps_counts by.Memory message files before now h e = e

-- what is left, if anything is
pub all_given : (r : Result Left PreStop) (files : List (List ℕ)) (lines : List Line) (notes : List Message) {contents : Option (List Named)} {it : List Named → Preprocessed} → ForSome contents (λ told. it told ≡ Given files lines notes)
    → IfOk r (λ left. left.lines.files ≡ files) → IfOk r (λ left. left.lines.list ≡ lines) → IfOk r (λ left. left.notes ≡ notes) → IfOk r (λ left. ForSome contents (λ told. it told ≡ Given left.lines.files left.lines.list left.notes))
all_given (Ok left) files lines notes h e f g = λ told k. h told k ∙ given_by files left.lines.files lines left.lines.list notes left.notes e f g
all_given (Err stop) files lines notes h e f g = tt

pub all_lines : (r : Result Left PreStop) (files : List (List ℕ)) (lines : List Line) → All (IsGoodLine (length files)) lines
    → IfOk r (λ left. left.lines.files ≡ files) → IfOk r (λ left. left.lines.list ≡ lines) → IfOk r (λ left. All (IsGoodLine (length left.lines.files)) left.lines.list)
all_lines (Ok left) files lines h e f = good_lines files left.lines.files lines left.lines.list e f h
all_lines (Err stop) files lines h e f = tt

pub all_notes : (r : Result Left PreStop) (files : List (List ℕ)) (notes : List Message) → All (IsGoodNote (length files)) notes
    → IfOk r (λ left. left.lines.files ≡ files) → IfOk r (λ left. left.notes ≡ notes) → IfOk r (λ left. All (IsGoodNote (length left.lines.files)) left.notes)
all_notes (Ok left) files notes h e f = good_notes files left.lines.files notes left.notes e f h
all_notes (Err stop) files notes h e f = tt

-- the same of an early end of the reading
pub ends_stop : (stop : PreStop) (early : ReadingStop) (contents : Option (List Named)) (files : List (List ℕ)) (outcome : List Named → Outcome State) (it : Preprocessed) (told : List Named) → contents ≡ Some told
    → EndsWith stop early files → StopsAt early contents files outcome → it ≡ given (outcome told) → IsStop stop it
ends_stop stop (At message) contents files outcome it told k h r e = keeps_stop stop message files it h (e ∙ ap given (r.1 told k))
ends_stop stop ReadFault contents files outcome it told k h r e = subst (λ s. IsStop s it) (sym h) tt
ends_stop stop Memory contents files outcome it told k h r e = subst (λ s. IsStop s it) (sym h) tt

pub ends_place : (stop : PreStop) (early : ReadingStop) (contents : Option (List Named)) (files : List (List ℕ)) (outcome : List Named → Outcome State) → EndsWith stop early files → StopsAt early contents files outcome → HasPlace stop
ends_place stop (At message) contents files outcome h r = keeps_place stop message files h r.0
ends_place stop ReadFault contents files outcome h r = subst HasPlace (sym h) tt
ends_place stop Memory contents files outcome h r = subst HasPlace (sym h) tt

pub ends_counts : (stop : PreStop) (early : ReadingStop) (files : List (List ℕ)) (before now : ℕ) → EndsWith stop early files → Counts early before now → MainCauses stop before now
ends_counts stop (At message) files before now h e = keeps_counts stop message files before now h e
ends_counts stop ReadFault files before now h e = subst (λ s. MainCauses s before now) (sym h) e
ends_counts stop Memory files before now h e = subst (λ s. MainCauses s before now) (sym h) e

pub main_causes : (stop : PreStop) (before mid now absents absents' : ℕ) → mid ≡ before → MainCauses stop mid now → Causes stop before now absents absents'
main_causes (by.Refused told names) before mid now absents absents' e h = h ∙ e
main_causes by.Absent before mid now absents absents' e h = absurd h
main_causes by.ReadFault before mid now absents absents' e h = omega (arith, h, e)
main_causes by.Memory before mid now absents absents' e h = h ∙ e

-- the same where the main file was not fetched
pub lacks_stop : (stop : PreStop) (fault : FetchFault) (setting : Setting) (name : List ℕ) (defines : List Define) (found : Option (List ℕ)) → LacksMain stop fault name → RefusedAt fault found → IsStop stop (of_found setting name defines found)
lacks_stop stop fetch.Absent setting name defines found h r = subst (λ s. IsStop s (of_found setting name defines found)) (sym h) (ap (of_found setting name defines) r)
lacks_stop stop fetch.TooLarge setting name defines found h r =
    keeps_stop stop too_large_main (name ∷ []) (of_found setting name defines found) h (ap (of_found setting name defines) r.1 ∙ main_above setting name defines r.0 r.2)
lacks_stop stop fetch.Failed setting name defines found h r = subst (λ s. IsStop s (of_found setting name defines found)) (sym h) tt
lacks_stop stop fetch.Memory setting name defines found h r = subst (λ s. IsStop s (of_found setting name defines found)) (sym h) tt

pub lacks_place : (stop : PreStop) (fault : FetchFault) (name : List ℕ) → LacksMain stop fault name → HasPlace stop
lacks_place stop fetch.Absent name h = subst HasPlace (sym h) tt
lacks_place stop fetch.TooLarge name h = keeps_place stop too_large_main (name ∷ []) h (omega arith)
lacks_place stop fetch.Failed name h = subst HasPlace (sym h) tt
lacks_place stop fetch.Memory name h = subst HasPlace (sym h) tt

keeps_causes : (stop : PreStop) (message : Message) (files : List (List ℕ)) (before now absents absents' : ℕ) → Keeps stop message files → now ≡ before → Causes stop before now absents absents'
keeps_causes (by.Refused told names) message files before now absents absents' h e = e
keeps_causes by.Absent message files before now absents absents' h e = absurd h
keeps_causes by.ReadFault message files before now absents absents' h e = absurd h
keeps_causes by.Memory message files before now absents absents' h e = e

pub lacks_causes : (stop : PreStop) (fault : FetchFault) (name : List ℕ) (before now absents absents' larges larges' : ℕ) → LacksMain stop fault name → RefusedCounts fault before now absents absents' larges larges' → Causes stop before now absents absents'
lacks_causes stop fetch.Absent name before now absents absents' larges larges' h r = subst (λ s. Causes s before now absents absents') (sym h) r
lacks_causes stop fetch.TooLarge name before now absents absents' larges larges' h r = keeps_causes stop too_large_main (name ∷ []) before now absents absents' h r.0
lacks_causes stop fetch.Failed name before now absents absents' larges larges' h r = subst (λ s. Causes s before now absents absents') (sym h) r
lacks_causes stop fetch.Memory name before now absents absents' larges larges' h r = subst (λ s. Causes s before now absents absents') (sym h) r
