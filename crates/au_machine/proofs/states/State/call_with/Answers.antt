use Rattle.std.proofs.Common.{ap, sym, ◌∙◌, None, [], ◌∷◌}
use Rattle.au_shipped.specs.declared.prims.ShippedCall.{ShippedCall}
use Rattle.au_effects.specs.Calls.{shipped}
use Rattle.au_low.specs.Machines.{Next}
use Rattle.au_low.specs.Instructions.{answered, text_bytes}
use Rattle.au_cells.specs.Cells.{low}
use Rattle.au_stores.specs.Stores.{world_of}
use Rattle.au_machine.specs.States.{machine_of}
use Rattle.au_machine.proofs.StateLemmas.{come_to}
use Rattle.au_machine.proofs.CallingLemmas.{not_of_one}
use Rattle.au_machine.proofs.states.State.call_with.Goals as goal

pub returns-in-PrintText-clause-is : goal.returns-in-PrintText-clause-is
unfolding shipped
returns-in-PrintText-clause-is c =
    let s = c.args.self.now in
    let bytes_of = text_bytes c.args.code.now in
    let w = world_of s.world in
    let go : ShippedCall → Next =
    λ call. answered (shipped bytes_of call None w (low c.args.a.now ∷ [])) (machine_of s) in
    come_to c.print_text.result c.print_text.new.self _ _
    (ap go (sym c.in-PrintText.is)) c.print_text.ensures.is

pub returns-in-PrintInt-clause-is : goal.returns-in-PrintInt-clause-is
unfolding shipped
returns-in-PrintInt-clause-is c =
    let s = c.args.self.now in
    let bytes_of = text_bytes c.args.code.now in
    let w = world_of s.world in
    let go : ShippedCall → Next =
    λ call. answered (shipped bytes_of call None w (low c.args.a.now ∷ [])) (machine_of s) in
    come_to c.print_number.result c.print_number.new.self _ _
    (ap go (sym c.in-PrintInt.is)) c.print_number.ensures.is

pub returns-in-PrintBool-clause-is : goal.returns-in-PrintBool-clause-is
unfolding shipped
returns-in-PrintBool-clause-is c =
    let s = c.args.self.now in
    let bytes_of = text_bytes c.args.code.now in
    let w = world_of s.world in
    let go : ShippedCall → Next =
    λ call. answered (shipped bytes_of call None w (low c.args.a.now ∷ [])) (machine_of s) in
    come_to c.print_truth.result c.print_truth.new.self _ _
    (ap go (sym c.in-PrintBool.is)) c.print_truth.ensures.is

pub returns-in-PrintLnText-clause-is : goal.returns-in-PrintLnText-clause-is
unfolding shipped
returns-in-PrintLnText-clause-is c =
    let s = c.args.self.now in
    let bytes_of = text_bytes c.args.code.now in
    let w = world_of s.world in
    let go : ShippedCall → Next =
    λ call. answered (shipped bytes_of call None w (low c.args.a.now ∷ [])) (machine_of s) in
    come_to c.print_text-in-PrintLnText.result c.print_text-in-PrintLnText.new.self _ _
    (ap go (sym c.in-PrintLnText.is)) c.print_text-in-PrintLnText.ensures.is

pub returns-in-PrintLnInt-clause-is : goal.returns-in-PrintLnInt-clause-is
unfolding shipped
returns-in-PrintLnInt-clause-is c =
    let s = c.args.self.now in
    let bytes_of = text_bytes c.args.code.now in
    let w = world_of s.world in
    let go : ShippedCall → Next =
    λ call. answered (shipped bytes_of call None w (low c.args.a.now ∷ [])) (machine_of s) in
    come_to c.print_number-in-PrintLnInt.result c.print_number-in-PrintLnInt.new.self _ _
    (ap go (sym c.in-PrintLnInt.is)) c.print_number-in-PrintLnInt.ensures.is

pub returns-in-PrintLnBool-clause-is : goal.returns-in-PrintLnBool-clause-is
unfolding shipped
returns-in-PrintLnBool-clause-is c =
    let s = c.args.self.now in
    let bytes_of = text_bytes c.args.code.now in
    let w = world_of s.world in
    let go : ShippedCall → Next =
    λ call. answered (shipped bytes_of call None w (low c.args.a.now ∷ [])) (machine_of s) in
    come_to c.print_truth-in-PrintLnBool.result c.print_truth-in-PrintLnBool.new.self _ _
    (ap go (sym c.in-PrintLnBool.is)) c.print_truth-in-PrintLnBool.ensures.is

pub returns-in-SpanLength-clause-is : goal.returns-in-SpanLength-clause-is
unfolding shipped
returns-in-SpanLength-clause-is c =
    let s = c.args.self.now in
    let bytes_of = text_bytes c.args.code.now in
    let w = world_of s.world in
    let go : ShippedCall → Next =
    λ call. answered (shipped bytes_of call None w (low c.args.a.now ∷ [])) (machine_of s) in
    come_to c.span_length.result c.span_length.new.self _ _
    (ap go (sym c.in-SpanLength.is)) c.span_length.ensures.is

pub returns-in-Abort-clause-is : goal.returns-in-Abort-clause-is
unfolding shipped
returns-in-Abort-clause-is c =
    let s = c.args.self.now in
    let bytes_of = text_bytes c.args.code.now in
    let w = world_of s.world in
    let go : ShippedCall → Next =
    λ call. answered (shipped bytes_of call None w (low c.args.a.now ∷ [])) (machine_of s) in
    c.abort.ensures.is ∙ ap go (sym c.in-Abort.is)

pub returns-in-SurrenderRoot-clause-is : goal.returns-in-SurrenderRoot-clause-is
unfolding shipped
returns-in-SurrenderRoot-clause-is c =
    let s = c.args.self.now in
    let bytes_of = text_bytes c.args.code.now in
    let w = world_of s.world in
    let go : ShippedCall → Next =
    λ call. answered (shipped bytes_of call None w (low c.args.a.now ∷ [])) (machine_of s) in
    come_to c.surrender_root.result c.surrender_root.new.self _ _
    (ap go (sym c.in-SurrenderRoot.is)) c.surrender_root.ensures.is

pub returns-in-Unbox-clause-is : goal.returns-in-Unbox-clause-is
unfolding shipped
returns-in-Unbox-clause-is c =
    let s = c.args.self.now in
    let bytes_of = text_bytes c.args.code.now in
    let w = world_of s.world in
    let go : ShippedCall → Next =
    λ call. answered (shipped bytes_of call None w (low c.args.a.now ∷ [])) (machine_of s) in
    come_to c.unbox.result c.unbox.new.self _ _
    (ap go (sym c.in-Unbox.is)) c.unbox.ensures.is

pub returns-in-BoxGet-clause-is : goal.returns-in-BoxGet-clause-is
unfolding shipped
returns-in-BoxGet-clause-is c =
    let s = c.args.self.now in
    let bytes_of = text_bytes c.args.code.now in
    let w = world_of s.world in
    let go : ShippedCall → Next =
    λ call. answered (shipped bytes_of call None w (low c.args.a.now ∷ [])) (machine_of s) in
    come_to c.box_get.result c.box_get.new.self _ _
    (ap go (sym c.in-BoxGet.is)) c.box_get.ensures.is

pub returns-in-BoxGetMut-clause-is : goal.returns-in-BoxGetMut-clause-is
unfolding shipped
returns-in-BoxGetMut-clause-is c =
    let s = c.args.self.now in
    let bytes_of = text_bytes c.args.code.now in
    let w = world_of s.world in
    let go : ShippedCall → Next =
    λ call. answered (shipped bytes_of call None w (low c.args.a.now ∷ [])) (machine_of s) in
    come_to c.box_get-in-BoxGetMut.result c.box_get-in-BoxGetMut.new.self _ _
    (ap go (sym c.in-BoxGetMut.is)) c.box_get-in-BoxGetMut.ensures.is

pub returns-in-DestroyEmpty-clause-is : goal.returns-in-DestroyEmpty-clause-is
unfolding shipped
returns-in-DestroyEmpty-clause-is c =
    let s = c.args.self.now in
    let bytes_of = text_bytes c.args.code.now in
    let w = world_of s.world in
    let go : ShippedCall → Next =
    λ call. answered (shipped bytes_of call None w (low c.args.a.now ∷ [])) (machine_of s) in
    come_to c.destroy_empty.result c.destroy_empty.new.self _ _
    (ap go (sym c.in-DestroyEmpty.is)) c.destroy_empty.ensures.is

pub returns-in-Length-clause-is : goal.returns-in-Length-clause-is
unfolding shipped
returns-in-Length-clause-is c =
    let s = c.args.self.now in
    let bytes_of = text_bytes c.args.code.now in
    let w = world_of s.world in
    let go : ShippedCall → Next =
    λ call. answered (shipped bytes_of call None w (low c.args.a.now ∷ [])) (machine_of s) in
    come_to c.length.result c.length.new.self _ _
    (ap go (sym c.in-Length.is)) c.length.ensures.is

pub returns-in-RemoveBack-clause-is : goal.returns-in-RemoveBack-clause-is
unfolding shipped
returns-in-RemoveBack-clause-is c =
    let s = c.args.self.now in
    let bytes_of = text_bytes c.args.code.now in
    let w = world_of s.world in
    let go : ShippedCall → Next =
    λ call. answered (shipped bytes_of call None w (low c.args.a.now ∷ [])) (machine_of s) in
    come_to c.remove_back.result c.remove_back.new.self _ _
    (ap go (sym c.in-RemoveBack.is)) c.remove_back.ensures.is

pub returns-in-ReadByte-clause-is : goal.returns-in-ReadByte-clause-is
unfolding shipped
returns-in-ReadByte-clause-is c =
    let s = c.args.self.now in
    let bytes_of = text_bytes c.args.code.now in
    let w = world_of s.world in
    let go : ShippedCall → Next =
    λ call. answered (shipped bytes_of call None w (low c.args.a.now ∷ [])) (machine_of s) in
    c.read_byte.ensures ∙ ap go (sym c.in-ReadByte.is)

pub returns-in-ReleaseTerminal-clause-is : goal.returns-in-ReleaseTerminal-clause-is
unfolding shipped
returns-in-ReleaseTerminal-clause-is c =
    let s = c.args.self.now in
    let bytes_of = text_bytes c.args.code.now in
    let w = world_of s.world in
    let go : ShippedCall → Next =
    λ call. answered (shipped bytes_of call None w (low c.args.a.now ∷ [])) (machine_of s) in
    come_to c.release_terminal.result c.release_terminal.new.self _ _
    (ap go (sym c.in-ReleaseTerminal.is)) c.release_terminal.ensures.is

pub returns-in_default-clause-is : goal.returns-in_default-clause-is
returns-in_default-clause-is c =
    let s = c.args.self.now in
    not_of_one (text_bytes c.args.code.now) (world_of s.world) (low c.args.a.now) (machine_of s) c.args.call
    (record {
      not_print_text = c.in_default.not-PrintText;
      not_print_int = c.in_default.not-PrintInt;
      not_print_bool = c.in_default.not-PrintBool;
      not_print_ln_text = c.in_default.not-PrintLnText;
      not_print_ln_int = c.in_default.not-PrintLnInt;
      not_print_ln_bool = c.in_default.not-PrintLnBool;
      not_span_length = c.in_default.not-SpanLength;
      not_abort = c.in_default.not-Abort;
      not_surrender_root = c.in_default.not-SurrenderRoot;
      not_unbox = c.in_default.not-Unbox;
      not_box_get = c.in_default.not-BoxGet;
      not_box_get_mut = c.in_default.not-BoxGetMut;
      not_destroy_empty = c.in_default.not-DestroyEmpty;
      not_length = c.in_default.not-Length;
      not_remove_back = c.in_default.not-RemoveBack;
      not_read_byte = c.in_default.not-ReadByte;
      not_release_terminal = c.in_default.not-ReleaseTerminal;
    })
