-- What the room doesn't hold of a file that is too large is the rest of it.
use Rattle.std.proofs.Common.{◌≡◌, ◌++◌, ◌∙◌, Some, drop, take, ap, sym, arith}
use Rattle.std.proofs.lemmas.List.{take-append-drop}
use Rattle.std.proofs.lemmas.Grind.{common_steps}
use Rattle.au_base.proofs.sure.fill.Goals as goal

pub returns-then-size-gt-MOST_FILE_BYTES-clause-file :
    goal.returns-then-size-gt-MOST_FILE_BYTES-clause-file
returns-then-size-gt-MOST_FILE_BYTES-clause-file c =
    let bytes = c.args.bytes.now in
    let n = c.min-size.result in
    let room : c.extend_from_slice.new.self.items ≡ take n bytes = grind (arith, common_steps) in
    (drop n bytes, ap Some (sym (ap (λ x. x ++ drop n bytes) room ∙ take-append-drop n bytes)))
