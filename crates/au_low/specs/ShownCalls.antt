-- One program for each shipped call, which shows what it does.
use Rattle.std.specs.Prelude.{◌≡◌, ℕ, true, List, [], ◌∷◌, ◌++◌, Some, None, pos, negsuc, codes}
use Rattle.std.specs.Fmt.{signed_decimal}
use Rattle.au_base.specs.declared.kinds.IntKind.TheVariants.{Int8, Index}
use Rattle.au_shipped.specs.declared.prims.ShippedCall.{ShippedCall}
use Rattle.au_shipped.specs.declared.prims.ShippedCall.TheVariants as call
use Rattle.au_shipped.specs.declared.prims.AbortKind.TheVariants as kind
use Rattle.au_effects.specs.Values.{content_of, unit, number, reference, terminal, root}
use Rattle.au_effects.specs.Worlds.{born, consumed, opened, used, nothing, content, elements}
use Rattle.au_low.specs.declared.endings.Ending.TheVariants.{Abort}
use Rattle.au_low.specs.declared.instructions.Mode.TheVariants as mode
use Rattle.au_low.specs.declared.instructions.Instr.{Instr}
use Rattle.au_low.specs.declared.instructions.Instr.TheVariants.{Push, PushBool, PushText, Store, Move, Open}
use Rattle.au_low.specs.declared.instructions.Instr.TheVariants.{Shipped, Discard}
use Rattle.au_low.specs.Runs.{low_run}
use Rattle.au_low.specs.Examples.{program, rooted, stack_after, slots_after, births_after, deeds_after}
use Rattle.au_low.specs.Examples.{ending_of, output_of}
use Rattle.au_low.specs.Shown.{put_byte, byte}

-- a shipped call, and one that makes a value of type 0
abbrev pub does : ShippedCall → Instr
does one = Shipped one None []

abbrev pub births : ShippedCall → Instr
births one = Shipped one (Some 0) []

-- an index
abbrev pub put_index : ℕ → Instr
put_index n = Push Index (pos n)

-- printing, texts, the abort of a call, and a swap
pub record PrintsAreShown : Type 0 where
  pub text_printed : output_of (PushText 0 ∷ does call.PrintText ∷ []) 9 ≡ codes "hi"
  pub text_line : output_of (PushText 0 ∷ does call.PrintLnText ∷ []) 9 ≡ codes "hi" ++ 10 ∷ []
  pub number_printed : output_of (Push Int8 (negsuc 127) ∷ does call.PrintInt ∷ []) 9
      ≡ signed_decimal (negsuc 127)
  pub number_line : output_of (put_byte 40 ∷ does call.PrintLnInt ∷ []) 9 ≡ signed_decimal (pos 40) ++ 10 ∷ []
  pub truth_printed : output_of (PushBool true ∷ does call.PrintBool ∷ []) 9 ≡ codes "true"
  pub truth_line : output_of (PushBool true ∷ does call.PrintLnBool ∷ []) 9 ≡ codes "true" ++ 10 ∷ []
  pub gives_unit : stack_after 2 (program (PushText 0 ∷ does call.PrintText ∷ []) []) ≡ Some (unit ∷ [])
  pub span_length : stack_after 2 (program (PushText 0 ∷ does call.SpanLength ∷ []) [])
      ≡ Some (number Index (pos 2) ∷ [])
  pub abort : ending_of (PushText 1 ∷ does call.Abort ∷ []) 9 ≡ Abort (kind.Called 1)
  pub swap : stack_after 5 (program (put_byte 1 ∷ Store 0 ∷ Open 0 mode.Write ∷ put_byte 2 ∷ does call.Swap
      ∷ []) []) ≡ Some (byte 1 ∷ [])
  pub swap_puts : slots_after 5 (program
      (put_byte 1 ∷ Store 0 ∷ Open 0 mode.Write ∷ put_byte 2 ∷ does call.Swap ∷ []) [])
      ≡ Some (Some (byte 2) ∷ None ∷ None ∷ [])

-- a box with a byte in slot 0
abbrev pub boxed : List Instr
boxed = put_byte 5 ∷ births call.MakeBox ∷ Store 0 ∷ []

-- boxes
pub record BoxesAreShown : Type 0 where
  pub make : births_after 2 (program boxed []) ≡ Some (content (byte 5) ∷ [])
  pub tells : deeds_after 2 (program boxed []) ≡ Some (born 0 0 (codes "Standard.Box") ∷ [])
  pub unbox : stack_after 5 (program (boxed ++ Move 0 ∷ does call.Unbox ∷ []) []) ≡ Some (byte 5 ∷ [])
  pub unbox_ends : births_after 5 (program (boxed ++ Move 0 ∷ does call.Unbox ∷ []) []) ≡ Some (nothing ∷ [])
  pub get : stack_after 5 (program (boxed ++ Open 0 mode.Read ∷ does call.BoxGet ∷ []) [])
      ≡ Some (reference 0 (record { base = content_of 0; path = [] }) ∷ [])
  pub get_mut : stack_after 5 (program (boxed ++ Open 0 mode.Read ∷ does call.BoxGetMut ∷ []) [])
      ≡ Some (reference 0 (record { base = content_of 0; path = [] }) ∷ [])

-- a buffer with two bytes in slot 0
abbrev pub buffered : List Instr
buffered = births call.MakeEmpty ∷ Store 0
    ∷ Open 0 mode.Write ∷ put_byte 5 ∷ does call.InsertBack ∷ Discard
    ∷ Open 0 mode.Write ∷ put_byte 6 ∷ does call.InsertBack ∷ Discard ∷ []

-- buffers
pub record BuffersAreShown : Type 0 where
  pub make : births_after 1 (program buffered []) ≡ Some (elements [] ∷ [])
  pub insert : births_after 10 (program buffered []) ≡ Some (elements (byte 5 ∷ byte 6 ∷ []) ∷ [])
  pub length : stack_after 12 (program (buffered ++ Open 0 mode.Read ∷ does call.Length ∷ []) [])
      ≡ Some (number Index (pos 2) ∷ [])
  pub remove : stack_after 12 (program (buffered ++ Open 0 mode.Write ∷ does call.RemoveBack ∷ []) [])
      ≡ Some (byte 6 ∷ [])
  pub nth : stack_after 13 (program (buffered ++ Open 0 mode.Read ∷ put_index 1 ∷ does call.Nth ∷ []) [])
      ≡ Some (byte 6 ∷ [])
  pub nth_beyond : ending_of (buffered ++ Open 0 mode.Read ∷ put_index 2 ∷ does call.Nth ∷ []) 99
      ≡ Abort kind.OutOfRange
  pub replace : births_after 14 (program
      (buffered ++ Open 0 mode.Write ∷ put_index 0 ∷ put_byte 9 ∷ does call.ReplaceNth ∷ []) [])
      ≡ Some (elements (byte 9 ∷ byte 6 ∷ []) ∷ [])
  pub replace_beyond : ending_of (buffered ++ Open 0 mode.Write ∷ put_index 7 ∷ put_byte 9
      ∷ does call.ReplaceNth ∷ []) 99 ≡ Abort kind.OutOfRange
  pub destroy : deeds_after 2 (program (births call.MakeEmpty ∷ does call.DestroyEmpty ∷ []) [])
      ≡ Some (born 0 0 (codes "Standard.Buffer") ∷ consumed 0 ∷ [])
  pub destroy_full : ending_of (buffered ++ Move 0 ∷ does call.DestroyEmpty ∷ []) 99 ≡ Abort kind.NotEmpty
  pub remove_none : ending_of (births call.MakeEmpty ∷ Store 0 ∷ Open 0 mode.Write ∷ does call.RemoveBack
      ∷ []) 99 ≡ Abort kind.Empty
  pub used_before_abort : (low_run true
      (program (births call.MakeEmpty ∷ Store 0 ∷ Open 0 mode.Write ∷ does call.RemoveBack ∷ []) [])
      [] 99).events ≡ born 0 0 (codes "Standard.Buffer") ∷ opened 0 ∷ used 0 ∷ []

-- the terminal in slot 1
abbrev pub acquired : List Instr
acquired = Open 0 mode.Write ∷ births call.AcquireTerminal ∷ Store 1 ∷ []

-- a byte is read, and left as an operand
abbrev pub reading : List Instr
reading = acquired ++ Open 1 mode.Write ∷ does call.ReadByte ∷ []

-- the root and the terminal
pub record TerminalsAreShown : Type 0 where
  pub root_born : deeds_after 0 (rooted []) ≡ Some (born 0 0 (codes "Austral.Pervasive") ∷ [])
  pub root_there : slots_after 0 (rooted []) ≡ Some (Some (root 0) ∷ None ∷ None ∷ [])
  pub surrender : deeds_after 2 (rooted (Move 0 ∷ does call.SurrenderRoot ∷ []))
      ≡ Some (born 0 0 (codes "Austral.Pervasive") ∷ consumed 0 ∷ [])
  pub acquire : stack_after 2 (rooted acquired) ≡ Some (terminal 1 ∷ [])
  pub acquire_tells : deeds_after 2 (rooted acquired)
      ≡ Some (born 0 0 (codes "Austral.Pervasive") ∷ opened 0 ∷ used 0
      ∷ born 1 0 (codes "Standard.IO.Terminal") ∷ [])
  pub read_takes : (low_run true (rooted reading) (7 ∷ 8 ∷ []) 5).left ≡ 8 ∷ []
  pub read_none : (low_run true (rooted reading) [] 5).made ≡ 5
  pub write : (low_run true (rooted (acquired ++ Open 1 mode.Write ∷ put_byte 65 ∷ does call.WriteByte ∷ []))
      [] 6).output ≡ codes "A"
  pub release : deeds_after 5 (rooted (acquired ++ Move 1 ∷ does call.ReleaseTerminal ∷ []))
      ≡ Some (born 0 0 (codes "Austral.Pervasive") ∷ opened 0 ∷ used 0
      ∷ born 1 0 (codes "Standard.IO.Terminal") ∷ consumed 1 ∷ [])
