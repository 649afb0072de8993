-- What the directives do.
use Rattle.std.specs.Prelude.{ℕ, ◌+◌, ◌==◌, ◌&&◌, Bool, true, false, not, cond, List, [], ◌∷◌, ◌++◌, is_some, unwrap_or, Some, None, Ok}
use Rattle.std.specs.declared.option.Option.{Option}
use Rattle.std.specs.Option.{option_map}
use Rattle.iasl_messages.specs.declared.place.Place.{Place}
use Rattle.asl_fragments.specs.Fragments.{ends_in_comment, without_comments}
use Rattle.asl_macros.specs.History.{History, Defines, Undefines, text_in}
use Rattle.asl_conditions.specs.Condition.{condition_of}
use Rattle.asl_directives.specs.declared.kind.DirectiveKind.{DirectiveKind}
use Rattle.asl_directives.specs.declared.kind.DirectiveKind.TheVariants as k
use Rattle.asl_directives.specs.declared.branches.Branch.{Branch}
use Rattle.asl_directives.specs.Words.{past_blanks, trimmed, word_of, behind_word, behind_mark, blanks_before}
use Rattle.asl_directives.specs.Forms.{IncludedFile, name_alone, definition_of, message_of, include_of}
use Rattle.asl_directives.specs.Kinds.{kind_of, is_conditional}
use Rattle.asl_directives.specs.Branches.{is_read, opened, asks, at_else_if, at_else, at_end_if}
use Rattle.asl_preprocess.specs.State.{Pass, Outcome, at, message_at, stopped, with_history, with_notes}
use Rattle.asl_preprocess.specs.Lines.{RowEffect, Goes, Asks, goes}

-- a wrong form
abbrev pub wrong : Place → Pass → Outcome RowEffect
wrong place pass = stopped pass.state 6003 place []

-- ---- definitions

-- one more definition, or the end of one
abbrev pub adds_definition : Pass → List ℕ × List ℕ → Outcome RowEffect
adds_definition pass d = goes pass (with_history pass.state (Defines d.0 d.1 ∷ pass.state.history))

abbrev pub ends_definition : Pass → List ℕ → Outcome RowEffect
ends_definition pass name = goes pass (with_history pass.state (Undefines name ∷ pass.state.history))

abbrev pub defines : Place → Pass → Option (List ℕ × List ℕ) → Outcome RowEffect
defines place pass None = wrong place pass
defines place pass (Some d) = adds_definition pass d

abbrev pub undefines : Place → Pass → Option (List ℕ) → Outcome RowEffect
undefines place pass None = wrong place pass
undefines place pass (Some name) = ends_definition pass name

-- ---- conditionals

-- other branches around the next line
abbrev pub turns : Pass → List Branch → Outcome RowEffect
turns pass branches = Ok (Goes (record { state = pass.state; branches = branches }))

-- where they do not balance
abbrev pub balanced : Place → Pass → Option (List Branch) → Outcome RowEffect
balanced place pass None = stopped pass.state 6004 place []
balanced place pass (Some branches) = turns pass branches

abbrev pub opens : Place → Pass → Bool → Outcome RowEffect
opens place pass value = turns pass (opened place.line place.column value pass.branches)

-- to the branch of an `#elif`
abbrev pub turns_to : Pass → Bool → Outcome RowEffect
turns_to pass value = turns pass (at_else_if value pass.branches)

-- a condition is true where its value is not 0
abbrev pub truth_of : History → List ℕ → Option Bool
truth_of history text = option_map (λ value. not (value == 0)) (condition_of history text)

abbrev pub opens_if : Place → Pass → Option Bool → Outcome RowEffect
opens_if place pass None = stopped pass.state 6006 place []
opens_if place pass (Some value) = opens place pass value

abbrev pub turns_if : Place → Pass → Option Bool → Outcome RowEffect
turns_if place pass None = stopped pass.state 6006 place []
turns_if place pass (Some value) = turns_to pass value

-- whether a name is defined, or where the sign is false whether it is not
abbrev pub is_defined_as : Bool → History → List ℕ → Bool
is_defined_as sign history name = cond sign (is_some (text_in history name)) (not (is_some (text_in history name)))

-- `#ifdef` where the sign is true, else `#ifndef`
abbrev pub opens_defined : Bool → Place → Pass → Option (List ℕ) → Outcome RowEffect
opens_defined sign place pass None = wrong place pass
opens_defined sign place pass (Some name) = opens place pass (is_defined_as sign pass.state.history name)

-- the condition of an `#elif` is asked for where no branch was taken before
abbrev pub else_if : Place → List ℕ → Pass → Option Bool → Outcome RowEffect
else_if place rest pass None = stopped pass.state 6004 place []
else_if place rest pass (Some false) = turns_to pass false
else_if place rest pass (Some true) = turns_if place pass (truth_of pass.state.history rest)

-- ---- includes and messages

abbrev pub includes : Place → Pass → Option IncludedFile → Outcome RowEffect
includes place pass None = wrong place pass
includes place pass (Some asked) = Ok (Asks asked place pass)

abbrev pub notes : Pass → ℕ → Place → List ℕ → Outcome RowEffect
notes pass number place name =
    goes pass (with_notes pass.state (pass.state.notes ++ message_at number place name ∷ []))

abbrev pub notes_message : Place → Pass → Option (List ℕ) → Outcome RowEffect
notes_message place pass None = wrong place pass
notes_message place pass (Some text) = notes pass 2001 place text

-- ---- a directive

-- where it is read: what stands behind its word is `rest`
abbrev pub obeyed : DirectiveKind → Place → List ℕ → Pass → Outcome RowEffect
obeyed k.Define place rest pass = defines place pass (definition_of rest)
obeyed k.Undefine place rest pass = undefines place pass (name_alone rest)
obeyed k.If place rest pass = opens_if place pass (truth_of pass.state.history rest)
obeyed k.IfDefined place rest pass = opens_defined true place pass (name_alone rest)
obeyed k.IfNotDefined place rest pass = opens_defined false place pass (name_alone rest)
obeyed k.ElseIf place rest pass = else_if place rest pass (asks pass.branches)
obeyed k.Else place rest pass = balanced place pass (at_else pass.branches)
obeyed k.EndIf place rest pass = balanced place pass (at_end_if pass.branches)
obeyed k.Include place rest pass = includes place pass (include_of rest)
obeyed k.Error place rest pass = stopped pass.state 6005 place (trimmed rest)
obeyed k.Warning place rest pass = notes pass 3004 place (trimmed rest)
obeyed k.Pragma place rest pass = notes_message place pass (message_of rest)

-- where it is not: an `#if` of any kind opens a branch that is not read, and the others turn and close branches
abbrev pub skipped : DirectiveKind → Place → List ℕ → Pass → Outcome RowEffect
skipped k.If place rest pass = opens place pass false
skipped k.IfDefined place rest pass = opens place pass false
skipped k.IfNotDefined place rest pass = opens place pass false
skipped k.ElseIf place rest pass = else_if place rest pass (asks pass.branches)
skipped k.Else place rest pass = balanced place pass (at_else pass.branches)
skipped k.EndIf place rest pass = balanced place pass (at_end_if pass.branches)
skipped _ place rest pass = Ok (Goes pass)

-- a block comment that a directive leaves open is a wrong form, and so is a word that is no directive's
abbrev pub obeyed_closed : Option DirectiveKind → Place → List ℕ → Pass → Outcome RowEffect
obeyed_closed None place rest pass = wrong place pass
obeyed_closed (Some kind) place rest pass = obeyed kind place rest pass

abbrev pub obeyed_or_open : Bool → Option DirectiveKind → Place → List ℕ → Pass → Outcome RowEffect
obeyed_or_open left_open kind place rest pass = cond left_open (wrong place pass) (obeyed_closed kind place rest pass)

-- where a directive is not read, that counts in a conditional alone
abbrev pub skipped_or_open : Bool → Option DirectiveKind → Place → List ℕ → Pass → Outcome RowEffect
skipped_or_open left_open None place rest pass = Ok (Goes pass)
skipped_or_open left_open (Some kind) place rest pass = cond (left_open && is_conditional kind) (wrong place pass)
    (skipped kind place rest pass)

-- what stands behind the `#`, blanks aside
abbrev pub directive_text : List ℕ → List ℕ
directive_text text = past_blanks (unwrap_or (behind_mark 35 text) [])

-- of a text whose comments are blanks
abbrev pub of_blanked : Bool → ℕ → ℕ → List ℕ → Pass → Outcome RowEffect
of_blanked left_open file n text pass =
    let place = at file n (blanks_before text + 1) in
    let kind = kind_of (word_of (directive_text text)) in
    let rest = behind_word (directive_text text) in
    cond (is_read pass.branches) (obeyed_or_open left_open kind place rest pass) (skipped_or_open left_open kind place rest pass)

-- a directive of the file with this number, in this line
abbrev pub of_directive : ℕ → ℕ → List ℕ → Pass → Outcome RowEffect
of_directive file n text pass = of_blanked (ends_in_comment false text) file n (without_comments false text) pass
