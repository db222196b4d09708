-- What is known at a place of a file by the tokens before it.
use Rattle.std.specs.Prelude.{◌+◌, ◌-◌, Bool, ◌||◌, if◌then◌else◌, List, drop}
use Rattle.std.specs.Prelude.{Option, Some, is_none}
use Rattle.au_format.specs.declared.kinds.Kind.{Kind}
use Rattle.au_format.specs.declared.standings.Standing.{Standing}
use Rattle.au_format.specs.Kinds.{nearest}
use Rattle.au_format.specs.Marks as marks

-- what is known behind these tokens, the nearest first, before the next one
abbrev pub standing : List Kind → Option Kind → Standing
standing before next = record {
  last = nearest before;
  second = nearest (drop 1 before);
  choices = marks.choices before;
  begins = marks.begins before;
  in_case = marks.in_case before;
  in_import = marks.in_import before;
  levels = marks.levels before next;
  ended = marks.is_ended before next;
  hugging = marks.is_hugging before next;
}

-- what is known behind one token more, and before the next one
abbrev pub step : Standing → Kind → Option Kind → Standing
step s kind next =
    let opens : Bool = marks.opens s.second s.choices kind next in
    record {
      last = Some kind;
      second = s.last;
      choices = marks.choices_behind s.choices s.begins kind;
      begins = marks.begins_behind s.choices kind;
      in_case = marks.case_through s.second s.in_case kind;
      in_import = marks.import_through s.in_import kind;
      levels = s.levels - marks.closes s.last s.choices kind next + (if opens then 1 else 0);
      ended = is_none next || (opens || marks.is_last_semicolon s.in_case kind next);
      hugging = marks.hugs s.last kind next;
    }
