-- Document 02 (g): "Its program reads a count byte, that many state bytes, then the sheet ..; an input that ends too early counts as one
-- with an empty sheet." The three parts of every list of bytes, and how much of it has to be read.
use Rattle.std.specs.Prelude.{ℕ, ◌+◌, List, ◌++◌, take, drop, replicate, leb}
use Rattle.sheet.specs.Bytes.{byte, pick}
use Rattle.sheet.specs.Contents.{longest}
use Rattle.report.specs.Reporting.{most_queries}

-- "a count byte"; where there is no input at all, 0
abbrev pub input_count : List ℕ → ℕ
input_count file = byte file 0

-- "that many state bytes"; for those that are missing, 0. What they are changes nothing: the sheet is then empty (EndsEarly)
abbrev pub input_states : List ℕ → List ℕ
input_states file = take (input_count file) (drop 1 file ++ replicate (input_count file) 0)

-- "then the sheet"; of "an input that ends too early", nothing
abbrev pub input_sheet : List ℕ → List ℕ
input_sheet file = drop (1 + input_count file) file

-- how much of a file has to be read behind a count: the states and one byte more than the longest sheet, so that a longer one is seen to
-- be too long
abbrev pub rest_needed : ℕ → ℕ
rest_needed count = count + (longest + 1)

-- and how much in all: the count byte; and, where there are not too many queries, what is behind it
abbrev pub bytes_needed : List ℕ → ℕ
bytes_needed file = 1 + pick (leb (input_count file) most_queries) (rest_needed (input_count file)) 0

-- what a file with the most queries needs
abbrev pub input_length : ℕ
input_length = 1 + rest_needed most_queries
