use Rattle.std.proofs.Common.{◌≡◌, ℕ, List, false, ◌∙◌, sym}
use Rattle.std.specs.Prelude.{Option, Some, None, is_some}
use Rattle.std.specs.List.{All}
use Rattle.memchr.specs.Find.{FindsNeedle}
use Rattle.asl_preprocess.specs.Rows.{file_lines}
use Rattle.asl_preprocess.specs.OwnName.{own_name, LacksOwnName}
use Rattle.asl_preprocess.proofs.OwnName.{not_found}
use Rattle.asl_preprocess.proofs.rows.names_own.Goals as goal

none_found : (bytes : List ℕ) (found : Option ℕ) → FindsNeedle bytes own_name 0 found → is_some found ≡ false → All LacksOwnName (file_lines bytes)
none_found bytes None finds e = not_found bytes finds
none_found bytes (Some k) finds e = absurd cc

pub returns : goal.returns
returns c = λ is. none_found c.args.bytes.now c.find.result c.find.ensures (sym c.is_some.ensures ∙ is)
