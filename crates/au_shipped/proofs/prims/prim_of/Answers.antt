use Rattle.std.proofs.Common.{codes, ap, sym, ◌∙◌}
use Rattle.std.specs.Str.{bytes_eq}
use Rattle.au_shipped.specs.Calls.{found, pervasive_calls, buffer_calls, terminal_calls}
use Rattle.au_shipped.proofs.Choosing.{of_pervasive, of_buffers, of_terminal}
use Rattle.au_shipped.proofs.prims.prim_of.Goals as goal

pub returns-then-is_name : goal.returns-then-is_name
returns-then-is_name c =
    let home = sym c.as_bytes-home.ensures.bytes in
    c.pervasive_call.ensures
    ∙ ap (found (pervasive_calls c.args.of)) c.as_bytes-call.ensures.bytes
    ∙ of_pervasive c.args.home.now c.args.call.now c.args.of
    (ap (bytes_eq (codes "Austral.Pervasive")) home ∙ sym c.is_name.ensures ∙ c.if-is_name.true)

pub returns-then-is_name-3 : goal.returns-then-is_name-3
returns-then-is_name-3 c =
    let home = sym c.as_bytes-home.ensures.bytes in
    c.buffer_call.ensures
    ∙ ap (found buffer_calls) c.as_bytes-call.ensures.bytes
    ∙ of_buffers c.args.home.now c.args.call.now c.args.of
    (ap (bytes_eq (codes "Austral.Pervasive")) home ∙ sym c.is_name.ensures ∙ c.if-is_name.false)
    (ap (bytes_eq (codes "Standard.Box")) home ∙ sym c.is_name-else-is_name.ensures ∙ c.if-is_name-2.false)
    (ap (bytes_eq (codes "Standard.Buffer")) home ∙ sym c.is_name-else-is_name-2.ensures ∙ c.if-is_name-3.true)

pub returns-then-is_name-4 : goal.returns-then-is_name-4
returns-then-is_name-4 c =
    let home = sym c.as_bytes-home.ensures.bytes in
    c.terminal_call.ensures
    ∙ ap (found terminal_calls) c.as_bytes-call.ensures.bytes
    ∙ of_terminal c.args.home.now c.args.call.now c.args.of
    (ap (bytes_eq (codes "Austral.Pervasive")) home ∙ sym c.is_name.ensures ∙ c.if-is_name.false)
    (ap (bytes_eq (codes "Standard.Box")) home ∙ sym c.is_name-else-is_name.ensures ∙ c.if-is_name-2.false)
    (ap (bytes_eq (codes "Standard.Buffer")) home ∙ sym c.is_name-else-is_name-2.ensures ∙ c.if-is_name-3.false)
    (ap (bytes_eq (codes "Standard.IO.Terminal")) home ∙ sym c.is_name-else-is_name-3.ensures ∙ c.if-is_name-4.true)
