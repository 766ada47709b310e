-- The code's commands as those of 002.
--     command_of       the command that a command of the code is
--     Read             a command and its length, or the number of a refusal
--     decoded_of       what decoding gives
--     read_of          what it has to give
--     parameter_of     the parameter of n bytes, if they are there
--     still_of         W0, X0, Y0 and Z0, by their amount
--     moving_of        a move that sets one of the four amounts
use Rattle.std.specs.Prelude.{ℕ, Bool, true, false, List, leb, ℤ, length, take, Option, Some, None, Ok, Err, Result as ResultOf}
use Rattle.octets.specs.Octets.{signed}
use Rattle.dvi.specs.Command as S
use Rattle.dvi_command.specs.declared.Command.{Command}
use Rattle.dvi_command.specs.declared.Command.TheVariants.{SetChar, Nop, Eop, Push, Pop, VertRule, HorzRule, HorzChar, SetFont, MoveW, MoveW0, MoveX, MoveX0, MoveY, MoveY0, MoveZ, MoveZ0}
use Rattle.dvi_command.specs.declared.Decoded.{Decoded}
use Rattle.octets.specs.Answer.{number_in, bad_command, dvi_ends_early}
use Rattle.octets.specs.declared.refusal.Reason.{Reason}
use Rattle.dvi_command.specs.declared.Amount.{Amount}
use Rattle.dvi_command.specs.declared.Amount.TheVariants.{W, X, Y, Z}

abbrev pub command_of : Command → S.Command
command_of (SetChar c) = S.set_char c
command_of Nop = S.nop
command_of Eop = S.eop
command_of Push = S.push
command_of Pop = S.pop
command_of (VertRule h w) = S.vert_rule h.0 w.0
command_of (HorzRule h w) = S.horz_rule h.0 w.0
command_of (HorzChar c) = S.horz_char c
command_of (SetFont f) = S.set_font f
command_of (MoveW m) = S.move_w m.0
command_of MoveW0 = S.move_w0
command_of (MoveX m) = S.move_x m.0
command_of MoveX0 = S.move_x0
command_of (MoveY m) = S.move_y m.0
command_of MoveY0 = S.move_y0
command_of (MoveZ m) = S.move_z m.0
command_of MoveZ0 = S.move_z0

-- a command with the number of its parameters' bytes, or the number of the refusal
abbrev pub Read : Type 0
Read = ResultOf (S.Command × ℕ) ℕ

abbrev pub decoded_of : ResultOf Decoded Reason → Read
decoded_of (Ok d) = Ok (command_of d.command, d.length)
decoded_of (Err r) = Err (number_in r)

abbrev pub read_of : S.Decoded → Read
read_of S.no_command = Err bad_command
read_of S.cut_short = Err dvi_ends_early
read_of (S.command c n) = Ok (c, n)

abbrev pub parameter_if : Bool → ℤ → Option ℤ
parameter_if true z = Some z
parameter_if false z = None

-- the parameter of n bytes at the start of ps
unfoldable pub parameter_of : ℕ → List ℕ → Option ℤ
parameter_of n ps = parameter_if (leb n (length ps)) (signed (take n ps))

-- the commands of the four amounts
abbrev pub still_of : Amount → S.Command
still_of W = S.move_w0
still_of X = S.move_x0
still_of Y = S.move_y0
still_of Z = S.move_z0

abbrev pub moving_of : Amount → ℤ → S.Command
moving_of W m = S.move_w m
moving_of X m = S.move_x m
moving_of Y m = S.move_y m
moving_of Z m = S.move_z m
