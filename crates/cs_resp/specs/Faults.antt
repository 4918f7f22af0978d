-- The text of each fault.
use Rattle.std.specs.Prelude.{ℕ, List, codes}
use Rattle.cs_resp.specs.declared.faults.Fault.{Fault}
use Rattle.cs_resp.specs.declared.faults.Fault.TheVariants.{NotAnArray, NestedArray, NotABulk, BadLength, TooManyArguments, BulkTooLong, RequestTooLong, NoBulkEnd}

-- what an error reply says of a fault, without its sign and its line break
abbrev pub fault_text : Fault → List ℕ
fault_text NotAnArray = codes "ERR Protocol error: expected '*', a request is an array of bulk strings"
fault_text NestedArray = codes "ERR Protocol error: an array within a request"
fault_text NotABulk = codes "ERR Protocol error: expected '$', an argument is a bulk string"
fault_text BadLength = codes "ERR Protocol error: invalid length"
fault_text TooManyArguments = codes "ERR Protocol error: too many arguments"
fault_text BulkTooLong = codes "ERR Protocol error: an argument is too long"
fault_text RequestTooLong = codes "ERR Protocol error: the arguments are too long together"
fault_text NoBulkEnd = codes "ERR Protocol error: expected a line break after a bulk string"
