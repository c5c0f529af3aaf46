-- A list of calls to the board: the records after it, and all chip calls that it makes.
use Rattle.std.specs.Prelude.{List, [], ◌∷◌, ◌++◌}
use Rattle.model.specs.Call.{Call}
use Rattle.board_record.specs.declared.Board.{Board}
use Rattle.board.specs.Board.{BoardCall, chip_calls, board_to}

unfoldable pub board_run_to : Board → List BoardCall → Board
board_run_to b [] = b
board_run_to b (k ∷ ks) = board_run_to (board_to b k) ks

-- and all chip calls that it makes
unfoldable pub all_chip_calls : Board → List BoardCall → List Call
all_chip_calls b [] = []
all_chip_calls b (k ∷ ks) = chip_calls b k ++ all_chip_calls (board_to b k) ks
