-- A page on its way: what is written of it, and what is still to come.
use Rattle.std.specs.Prelude.{Option, Some, None}
use Rattle.reach.specs.declared.Reach.{Reach}
use Rattle.std.specs.Prelude.{ℕ, ◌≤◌, List, ◌++◌, ◌≡◌, length}
use Rattle.fields.specs.Named.{pick}
use Rattle.runs.specs.Page.{line_length, run_line}
use Rattle.runs.specs.Runs.{run, goes_on, joined, before}
use Rattle.runs.specs.declared.Run.{Run}
use Rattle.text.specs.Front.{in_front, put_at}

-- a run that has begun, before those that follow
abbrev pub resumed : Option Run → List Run → List Run
resumed (Some r) rs = before r rs
resumed None rs = rs

-- the bytes of its line
abbrev pub begun_length : Option Run → ℕ
begun_length (Some r) = line_length
begun_length None = 0

-- in a buffer that has room for the text, its front is written; `rest` is to come
pub record Written (text old rest : List ℕ) (at : ℕ) (now : List ℕ) : Type 0 where
  pub front : List ℕ
  pub whole : text ≡ front ++ rest
  pub long : at ≡ length front
  pub kept : length now ≡ length old
  pub bytes : length text ≤ length old → now ≡ in_front front old

-- a run as one with the next where it goes on in that; else none
abbrev pub lengthened : Run → Run → Option Run
lengthened r s = pick (goes_on r s) (Some (joined r s)) None

-- the line of a run that has begun is put, where there is room for it
abbrev pub line_at : Option Run → ℕ → List ℕ → List ℕ
line_at (Some r) at bytes = put_at (run_line r) bytes at
line_at None at bytes = bytes

-- some bytes of one answer, before the runs that follow
abbrev pub piece_before : ℕ → ℕ → Option Reach → List Run → List Run
piece_before first last (Some r) rs = before (run first last r) rs
piece_before first last None rs = rs
