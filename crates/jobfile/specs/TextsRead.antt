-- Job files as texts of characters: what they are read as, and that of document 01's worked board.
use Prim.Native.String as S
use Rattle.lists.specs.Lists.{all_of}
use Rattle.board.specs.Length.{width, upper, lower, span, plain_length, shortest, needed}
use Rattle.text.specs.Bytes.{bytes, same, joined, pieces, non_empty}
use Rattle.text.specs.Digits.{value_from, number}
use Rattle.keywords.specs.Keywords.{find_from, find_word}
use Rattle.lines.specs.Tokens.{spaced, line_words}
use Rattle.jobfile.specs.Forms.{no_word, if_last, cons_number, arguments, form_from, if_count, form_made, form_after, form_found, form_opened, form_of, read_form}
use Rattle.jobfile.specs.Read.{unless, at_start, at_opened, at_sized, at_filled, within, weight_given, weight_in_range, net_in_range, block_in_range, last_number, pins_free, test_net, is_above, add_net, add_block, step, Read, ended, follow, read_from, read_job}

-- what a text is read as. To unfold this is to unfold all that it computes with
unfoldable pub read_as : S.String → Read
unfolding read_job read_from follow ended step add_block add_net is_above test_net pins_free last_number block_in_range net_in_range weight_in_range weight_given within at_filled at_sized at_opened at_start unless read_form form_of form_opened form_found form_after form_made if_count form_from arguments cons_number if_last no_word line_words spaced find_word find_from number value_from non_empty pieces joined same needed shortest plain_length span lower upper width all_of
read_as s = read_job (bytes s)

-- the job file of document 01's worked board
abbrev pub worked_text : S.String
worked_text =
    "(board\n (rows 10)\n (tracks 2)\n (net 1 2 4 7 7)\n (net 2 6 8 11 12)\n (net 3 9 10 6 8)\n (net 4 3 2 6 6)\n (net 5 5 6 6 6)\n (block 2 6 6)\n)\n"
