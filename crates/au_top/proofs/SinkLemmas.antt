-- Lines that were said, texts that were written, and C text that was, or were cut.
use Rattle.std.proofs.Common.{◌≡◌, ℕ, List, [], Some, Result, Ok, Err, OnOk, OnErr, IfOk, IfErr, IsOkUnless}
use Rattle.std.proofs.Common.{refl, inl, inr, sym, subst}
use Rattle.au_base.specs.declared.statuses.Status.{Status}
use Rattle.au_base.specs.declared.statuses.Status.TheVariants as status
use Rattle.au_base.specs.Outside.{Adds}
use Rattle.au_cprint.specs.Programs.{c_text}
use Rattle.au_low.specs.declared.code.Code.{Code}
use Rattle.au_top.specs.Calls.{Pays, Fails}
use Rattle.au_top.specs.Dues.{due_line, laid_due}
use Rattle.au_top.specs.Ends.{PaysFor}
use Rattle.au_top.specs.Streams.{Gains, GainsFront, HasFailed, HasStayed, Stream, Streams}
use Rattle.au_top.specs.Texts.{text_due}
use Rattle.au_top.specs.declared.saying.AnswerFault.{AnswerFault}
use Rattle.au_top.specs.declared.saying.AnswerFault.TheVariants as answer
use Rattle.au_base.proofs.OutsideLemmas.{adds_none}

-- nothing was written to a stream that is as it was
pub gains_none : (s : Stream) → HasStayed s → Gains s []
gains_none s stayed = subst (λ new. Adds s.old new []) (sym stayed.0) (adds_none s.old)

-- a line that was said, or was cut
pub said_pays : (r : Result Status AnswerFault) (ends : Status) (text : List ℕ) (s : Streams)
    → HasStayed s.out → IfOk r (λ e. e ≡ ends) → OnOk r (Gains s.err text)
    → IfOk r (λ e. Pays (due_line ends text) e s)
said_pays (Ok e) ends text s stayed same adds =
    record { status = same; out_bytes = gains_none s.out stayed; err_bytes = adds }
said_pays (Err e) ends text s stayed same adds = tt

pub said_fails : (r : Result Status AnswerFault) (ends : Status) (text : List ℕ) (s : Streams)
    → HasStayed s.out → IsOkUnless r answer.Write → OnErr r (GainsFront s.err text)
    → OnErr r (HasFailed s.err)
    → IfErr r (λ e. Fails e (due_line ends text) s)
said_fails (Ok e) ends text s stayed unless front failed = tt
said_fails (Err answer.Write) ends text s stayed unless front failed =
    record {
      out_bytes = (0, gains_none s.out stayed);
      err_bytes = front;
      risen = inr (stayed.1, failed);
    }
said_fails (Err answer.Memory) ends text s stayed unless front failed =
    let e : answer.Memory ≡ answer.Write = unless in cc

-- a text that was written to `out`, or was cut
pub written_pays : (r : Result Status AnswerFault) (text : List ℕ) (s : Streams) → HasStayed s.err
    → IfOk r (λ e. e ≡ status.Success) → OnOk r (Gains s.out text)
    → IfOk r (λ e. Pays (laid_due text) e s)
written_pays (Ok e) text s stayed same adds =
    record { status = same; out_bytes = adds; err_bytes = gains_none s.err stayed }
written_pays (Err e) text s stayed same adds = tt

pub written_fails : (r : Result Status AnswerFault) (text : List ℕ) (s : Streams) → HasStayed s.err
    → (r ≡ Err answer.Write → GainsFront s.out text)
    → (r ≡ Err answer.Write → HasFailed s.out) → (r ≡ Err answer.Memory → HasStayed s.out)
    → IfErr r (λ e. Fails e (laid_due text) s)
written_fails (Ok e) text s stayed front failed memory = tt
written_fails (Err answer.Write) text s stayed front failed memory =
    record {
      out_bytes = front refl;
      err_bytes = (0, gains_none s.err stayed);
      risen = inl (failed refl, stayed);
    }
written_fails (Err answer.Memory) text s stayed front failed memory = record { out = memory refl; err = stayed }

-- C text that was written, or was cut
pub text_pays : (r : Result Status AnswerFault) (code : Code) (s : Streams) → HasStayed s.err
    → IfOk r (λ e. e ≡ status.Success) → OnOk r (Gains s.out (c_text code))
    → OnOk r (s.out.new_faults ≡ s.out.old_faults)
    → (r ≡ Err answer.Write → GainsFront s.out (c_text code))
    → (r ≡ Err answer.Write → HasFailed s.out) → (r ≡ Err answer.Memory → HasStayed s.out)
    → PaysFor r (Some (text_due code)) s
text_pays (Ok e) code s stayed same adds quiet front failed memory =
    (record { status = same; out_bytes = adds; err_bytes = gains_none s.err stayed }, (quiet, stayed.1))
text_pays (Err answer.Write) code s stayed same adds quiet front failed memory =
    record {
      out_bytes = front refl;
      err_bytes = (0, gains_none s.err stayed);
      risen = inl (failed refl, stayed);
    }
text_pays (Err answer.Memory) code s stayed same adds quiet front failed memory =
    record { out = memory refl; err = stayed }

-- a line that was said, or was cut, in the place of C text
pub line_pays : (r : Result Status AnswerFault) (ends : Status) (text line : List ℕ) (s : Streams)
    → HasStayed s.out → line ≡ text → IfOk r (λ e. e ≡ ends) → OnOk r (Gains s.err line)
    → OnOk r (s.err.new_faults ≡ s.err.old_faults) → IsOkUnless r answer.Write
    → OnErr r (GainsFront s.err line) → OnErr r (HasFailed s.err)
    → PaysFor r (Some (due_line ends text)) s
line_pays (Ok e) ends text line s stayed is same adds quiet unless front failed = (
  record {
    status = same;
    out_bytes = gains_none s.out stayed;
    err_bytes = subst (Gains s.err) is adds;
  },
  (stayed.1, quiet),
)
line_pays (Err answer.Write) ends text line s stayed is same adds quiet unless front failed =
    record {
      out_bytes = (0, gains_none s.out stayed);
      err_bytes = subst (GainsFront s.err) is front;
      risen = inr (stayed.1, failed);
    }
line_pays (Err answer.Memory) ends text line s stayed is same adds quiet unless front failed =
    let e : answer.Memory ≡ answer.Write = unless in absurd cc
