-- What a line asks for, and what the definition makes of it.
use Rattle.std.proofs.Common.{◌≡◌, ℕ, Bool, true, false, cond, List, [], Option, Some, None, Ok, Err, refl, ap, sym, subst, ◌∙◌}
use Rattle.std.specs.Result.{IsOkAnd}
use Rattle.iasl_messages.specs.declared.place.Place.{Place}
use Rattle.asl_directives.specs.declared.branches.Branch.{Branch}
use Rattle.asl_directives.specs.Forms.{file_name_of}
use Rattle.asl_directives.specs.Branches.{is_read}
use Rattle.asl_preprocess.specs.declared.work.Work.{Work}
use Rattle.asl_preprocess.specs.declared.directives.Wanted.{Wanted}
use Rattle.asl_preprocess.specs.declared.stop.ReadingStop.{ReadingStop}
use Rattle.asl_preprocess.specs.declared.stop.ReadingStop.TheVariants.{At, ReadFault, Memory}
use Rattle.asl_preprocess.specs.State.{State, Pass, Outcome, message_at}
use Rattle.asl_preprocess.specs.Lines.{RowEffect, Goes, Asks, with_line, text_left, word_place, asked_by_line, asks_for, of_asked, of_line}
use Rattle.asl_preprocess.specs.Told.{Shows, StopsWith, ShowsAsking, Lacks, LacksFile, AsksByLine}

-- a wrong form of a name that is asked for
pub lacks_name : (stop : ReadingStop) (place : Place) (name : List ℕ) (asked : Option (List ℕ)) → asked ≡ Some name → Lacks stop (message_at 6003 place []) (file_name_of name) → LacksFile stop place asked
lacks_name (At message) place name asked e h = (name, e, h.0, h.1)
lacks_name ReadFault place name asked e h = absurd h
lacks_name Memory place name asked e h = tt

module _ (enabled : Bool) (file n : ℕ) (in_comment : Bool) (text : List ℕ) (state : State) (branches : List Branch) where
  abbrev pass : Pass
  pass = record { state = state; branches = branches }

  abbrev outcome : Outcome RowEffect
  outcome = of_line enabled file n in_comment text pass

  abbrev place : Place
  place = word_place file n text

  -- a line that is not read
  pub line_passes : is_read branches ≡ false → outcome ≡ Ok (Goes pass)
  line_passes e = ap (λ b. cond b (of_asked enabled file n in_comment text pass (asked_by_line in_comment text)) (Ok (Goes pass))) e

  module _ (read : is_read branches ≡ true) where
    reads : (asked : Option (List ℕ)) → asked_by_line in_comment text ≡ asked → outcome ≡ of_asked enabled file n in_comment text pass asked
    reads asked e =
        ap (λ b. cond b (of_asked enabled file n in_comment text pass (asked_by_line in_comment text)) (Ok (Goes pass))) read
        ∙ ap (of_asked enabled file n in_comment text pass) e

    pub line_keeps : asked_by_line in_comment text ≡ None → outcome ≡ with_line pass (record { file = file; number = n; text = text_left enabled state.history in_comment text })
    line_keeps e = reads None e

    pub line_asks : (work : Work) (wanted : Wanted) → Shows work state → AsksByLine (Ok (Some wanted)) place (asked_by_line in_comment text) → IsOkAnd outcome (ShowsAsking wanted work branches)
    line_asks work wanted shows h =
        let e : outcome ≡ Ok (Asks (record { quoted = true; name = wanted.name }) place pass) = reads (Some h.0) h.1 ∙ ap (asks_for place pass) h.2 in
        let F : Outcome RowEffect → Type 0 = λ o. IsOkAnd o (ShowsAsking wanted work branches) in
        subst F (sym e) (ap (λ (q : Bool). record { quoted = q; name = wanted.name }) h.3, h.4, shows, refl)

    pub line_stops : (stop : ReadingStop) (work : Work) → Shows work state → LacksFile stop place (asked_by_line in_comment text) → StopsWith stop work.files outcome
    line_stops (At message) work shows h =
        reads (Some h.0) h.1 ∙ ap (asks_for place pass) h.2 ∙ ap (λ m. Err (m, state.files)) (sym h.3) ∙ ap (λ fs. Err (message, fs)) (sym shows.files)
    line_stops ReadFault work shows h = absurd h
    line_stops Memory work shows h = tt
