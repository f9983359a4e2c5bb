-- Document 01's scene S, the empty input and bad lines, from the bytes that are read to those that are printed.
use Rattle.std.specs.Prelude.{ℕ, List, [], ◌∷◌, ◌++◌, ◌≡◌, take, drop}
use Prim.Native.String.{String}
use Rattle.dump.specs.Dump.{dump}
use Rattle.fields.specs.Ascii.{ascii}

-- lines as bytes
abbrev pub bytes : List String → List ℕ
bytes [] = []
bytes (line ∷ lines) = ascii line ++ bytes lines

-- 'S's lines are'
abbrev pub lines_of_s : List String
lines_of_s =
    "L 1 40000000\n"
    ∷ "L 2 40001000\n"
    ∷ "L 3 40002000\n"
    ∷ "L 4 40003000\n"
    ∷ "L 5 40004000\n"
    ∷ "L 6 40005000\n"
    ∷ "L 8 80000000\n"
    ∷ "L 9 50000000\n"
    ∷ "L A 1000\n"
    ∷ "L B C0000000\n"
    ∷ "L C 60000000\n"
    ∷ "L D 9000000\n"
    ∷ "L E 200000\n"
    ∷ "L 10 4\n"
    ∷ "B 1 2\n"
    ∷ "U 2 3\n"
    ∷ []

-- 'They print'
abbrev pub printed_of_s : List String
printed_of_s =
    "1 000 0000000040005003\n"
    ∷ "1 002 0000000040002003\n"
    ∷ "1 003 0000000040004003\n"
    ∷ "3 000 0000000040003003\n"
    ∷ "4 001 00400000500017FF\n"
    ∷ "5 002 000000006040077D\n"
    ∷ "6 048 00400000090004C1\n"
    ∷ []

abbrev pub DumpS : Type 0
DumpS = dump (bytes lines_of_s) ≡ bytes printed_of_s

pub record DumpExamples : Type 0 where
  -- 'empty input is refused by 5'
  pub empty : dump [] ≡ ascii "REFUSED 5\n"
  -- a row's number of two digits: data pa 2^48
  pub two_digits : dump (bytes lines_of_s ++ ascii "L 9 1000000000000\n") ≡ ascii "REFUSED 10\n"
  -- the last output below it
  pub last_output :
      dump (bytes lines_of_s ++ ascii "L 9 FFFFFFE00000\n")
      ≡ bytes (take 4 printed_of_s ++ ("4 001 0040FFFFFFE017FF\n" ∷ drop 5 printed_of_s))
  -- 'a later line replaces an earlier one', and 'the last line may lack' its line feed
  pub later_line : dump (ascii "L 1 1\n" ++ (bytes lines_of_s ++ ascii "B 1 2")) ≡ bytes printed_of_s
  -- 'A line outside this form prints BAD LINE and ends'
  pub bad : dump (bytes lines_of_s ++ ascii "L 11 0\n") ≡ ascii "BAD LINE\n"
  pub empty_line : dump (ascii "\n" ++ bytes lines_of_s) ≡ ascii "BAD LINE\n"
  -- 'position at most 1FF, code at most 3', 'the exemption 0 or 1'
  pub last_position : dump (bytes lines_of_s ++ ascii "B 1FF 0\nU 1FF 0\nL F 0\n") ≡ bytes printed_of_s
  pub position : dump (ascii "B 200 2\n") ≡ ascii "BAD LINE\n"
  pub super_position : dump (ascii "U 200 0\n") ≡ ascii "BAD LINE\n"
  pub code : dump (ascii "B 0 4\n") ≡ ascii "BAD LINE\n"
  pub exemption : dump (ascii "L F 2\n") ≡ ascii "BAD LINE\n"
  -- 'Numbers are 1 to 16 digits, upper case, with one space between'
  pub sixteen_digits : dump (bytes lines_of_s ++ ascii "B 0000000000000001 2\n") ≡ bytes printed_of_s
  pub seventeen_digits : dump (ascii "B 00000000000000001 2\n") ≡ ascii "BAD LINE\n"
  pub lower_case : dump (ascii "L a 1000\n") ≡ ascii "BAD LINE\n"
  pub two_spaces : dump (ascii "L A  1000\n") ≡ ascii "BAD LINE\n"
