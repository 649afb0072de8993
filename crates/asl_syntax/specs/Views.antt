-- The parts of what is written.
use Rattle.std.proofs.Common.{◌≡◌, ℕ, List, [], ◌∷◌, map, Option, Some, None, refl, sym, ap, ◌∙◌}
use Rattle.iasl_messages.specs.declared.place.Place.{Place}
use Rattle.asl_syntax.specs.declared.raw.Infix.{Infix}
use Rattle.asl_syntax.specs.declared.raw.Raw.{Raw}
use Rattle.asl_syntax.specs.declared.raw.Raw.TheVariants as raw
use Rattle.asl_syntax.specs.declared.raw.Raw.TheOpen as node
use Rattle.asl_syntax.specs.declared.raw.Raw.TheOpen.{Raw-F}
use Rattle.asl_syntax.specs.declared.raw.Raw.TheFolds.{fold-roll-Raw}
use Rattle.asl_syntax.specs.Written.{Written, number, text, item, apply, listed, comma, semicolon, empty, none, more, absent, given}
use Rattle.asl_syntax.specs.Written.{row, layer, written, writtens, written_in}

row_written : (raws : List Raw) → row (map written raws) ≡ writtens raws
unfolding writtens
row_written [] = refl
row_written (r ∷ rs) = ap (more (written r)) (row_written rs)

pub written_number : (place : Place) (value : ℕ) → written (raw.Number place value) ≡ number place value
unfolding written
written_number place value = ap written (sym (raw.rolls-Number place value)) ∙ fold-roll-Raw Written layer (node.Number place value)

pub written_text : (place : Place) (bytes : List ℕ) → written (raw.Text place bytes) ≡ text place bytes
unfolding written
written_text place bytes = ap written (sym (raw.rolls-Text place bytes)) ∙ fold-roll-Raw Written layer (node.Text place bytes)

pub written_item : (place : Place) (word : List ℕ) (args body : Option (List Raw)) →
    written (raw.Item place word args body) ≡ item place word (written_in args) (written_in body)
unfolding written
written_item place word None None =
    ap written (sym (raw.rolls-Item place word None None)) ∙ fold-roll-Raw Written layer (node.Item place word None None)
written_item place word (Some xs) None =
    ap written (sym (raw.rolls-Item place word (Some xs) None)) ∙ fold-roll-Raw Written layer (node.Item place word (Some xs) None)
    ∙ ap (λ ws. item place word (given ws) absent) (row_written xs)
written_item place word None (Some ys) =
    ap written (sym (raw.rolls-Item place word None (Some ys))) ∙ fold-roll-Raw Written layer (node.Item place word None (Some ys))
    ∙ ap (λ ws. item place word absent (given ws)) (row_written ys)
written_item place word (Some xs) (Some ys) =
    ap written (sym (raw.rolls-Item place word (Some xs) (Some ys)))
    ∙ fold-roll-Raw Written layer (node.Item place word (Some xs) (Some ys))
    ∙ ap (λ ws. item place word (given ws) (given (row (map written ys)))) (row_written xs)
    ∙ ap (λ ws. item place word (given (writtens xs)) (given ws)) (row_written ys)

pub written_apply : (place : Place) (op : Infix) (args : List Raw) → written (raw.Apply place op args) ≡ apply place op (writtens args)
unfolding written
written_apply place op args =
    ap written (sym (raw.rolls-Apply place op args))
    ∙ fold-roll-Raw Written layer (node.Apply place op args) ∙ ap (apply place op) (row_written args)

pub written_list : (place : Place) (items : List Raw) → written (raw.List place items) ≡ listed place (writtens items)
unfolding written
written_list place items =
    ap written (sym (raw.rolls-List place items))
    ∙ fold-roll-Raw Written layer (node.List place items) ∙ ap (listed place) (row_written items)

pub written_comma : written raw.Comma ≡ comma
unfolding written
written_comma = ap written (sym raw.rolls-Comma) ∙ fold-roll-Raw Written layer node.Comma

pub written_semicolon : written raw.Semicolon ≡ semicolon
unfolding written
written_semicolon = ap written (sym raw.rolls-Semicolon) ∙ fold-roll-Raw Written layer node.Semicolon

pub written_empty : written raw.Empty ≡ empty
unfolding written
written_empty = ap written (sym raw.rolls-Empty) ∙ fold-roll-Raw Written layer node.Empty

pub no_writtens : writtens [] ≡ none
unfolding writtens
no_writtens = refl

pub more_writtens : (first : Raw) (rest : List Raw) → writtens (first ∷ rest) ≡ more (written first) (writtens rest)
unfolding writtens
more_writtens first rest = refl

pub ruleset written_rules =
    (written_number, written_text, written_item, written_apply, written_list, written_comma, written_semicolon, written_empty)
