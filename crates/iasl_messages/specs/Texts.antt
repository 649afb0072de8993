-- The texts of the messages.
use Rattle.std.specs.Prelude.{ℕ, List, [], ◌==◌, if◌then◌else◌, codes}

-- the text of the message of a number, and nothing for a number that no message has
unfoldable pub text_of : ℕ → List ℕ
text_of number =
    if number == 2001 then codes "message" else (
    if number == 2002 then codes "unknown decoded label" else (
    if number == 3001 then codes "reserved name has other arguments" else (
    if number == 3002 then codes "constant is cut to 32 bits" else (
    if number == 3003 then codes "name is never used" else (
    if number == 3004 then codes "warning directive" else (
    if number == 3005 then codes "label differs" else (
    if number == 6001 then codes "include file is absent" else (
    if number == 6002 then codes "includes are nested too deep" else (
    if number == 6003 then codes "bad directive" else (
    if number == 6004 then codes "conditionals do not balance" else (
    if number == 6005 then codes "error directive" else (
    if number == 6006 then codes "bad condition" else (
    if number == 6007 then codes "text is too large" else (
    if number == 6010 then codes "bad character" else (
    if number == 6011 then codes "string is not closed" else (
    if number == 6012 then codes "comment is not closed" else (
    if number == 6013 then codes "bad escape" else (
    if number == 6014 then codes "number is too large" else (
    if number == 6015 then codes "syntax" else (
    if number == 6016 then codes "nesting is too deep" else (
    if number == 6020 then codes "unknown operator" else (
    if number == 6021 then codes "wrong number of arguments" else (
    if number == 6022 then codes "wrong form of argument" else (
    if number == 6023 then codes "body is missing or not allowed" else (
    if number == 6024 then codes "value is out of range" else (
    if number == 6025 then codes "not allowed here" else (
    if number == 6026 then codes "bad EISA identifier" else (
    if number == 6027 then codes "bad UUID" else (
    if number == 6028 then codes "no definition block" else (
    if number == 6029 then codes "bad format" else (
    if number == 6030 then codes "wrong number of format arguments" else (
    if number == 6040 then codes "name is declared twice" else (
    if number == 6041 then codes "name is not found" else (
    if number == 6042 then codes "scope is not a container" else (
    if number == 6043 then codes "path leaves the root" else (
    if number == 6044 then codes "external is declared here" else (
    if number == 6045 then codes "external arguments differ" else (
    if number == 6046 then codes "path is too long" else (
    if number == 6050 then codes "wrong type" else (
    if number == 6051 then codes "wrong number of call arguments" else (
    if number == 6052 then codes "no loop to leave" else (
    if number == 6053 then codes "case value occurs twice" else (
    if number == 6054 then codes "wrong kind of object" else (
    if number == 6055 then codes "argument is above the count" else (
    if number == 6056 then codes "field is not whole bytes" else (
    if number == 6057 then codes "list is longer than its size" else (
    if number == 6061 then codes "too few free locals" else (
    if number == 6062 then codes "too many copies" else (
    if number == 6070 then codes "offset goes back" else (
    if number == 6071 then codes "bad width" else (
    if number == 6072 then codes "access is wider than the region" else (
    if number == 6073 then codes "space needs buffer access" else (
    if number == 6074 then codes "buffer access is not allowed" else (
    if number == 6075 then codes "connection is missing" else (
    if number == 6080 then codes "table is too long" else (
    if number == 6090 then codes "unknown table" else (
    if number == 6091 then codes "field is missing" else (
    if number == 6092 then codes "too many lines" else (
    if number == 6093 then codes "bad value" else (
    if number == 6094 then codes "value is too wide" else (
    if number == 6095 then codes "unknown structure type" else (
    if number == 6096 then codes "decoded line disagrees" else (
    if number == 6097 then codes "bad locality matrix" else (
    if number == 6100 then codes "bad header line" else (
    if number == 6101 then codes "bad pair" else (
    if number == 6102 then codes "offset is out of order" else (
    if number == 6103 then codes "length disagrees with the header" else (
    if number == 6110 then codes "unknown data type" else (
    if number == 6111 then codes "label is declared twice" else (
    if number == 6112 then codes "label is not found" else []))))))))))))))))))))))))))))))))))))))))))))))))))))))))))))))))))))))
