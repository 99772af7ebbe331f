-- What the rows say: for each rule, what it finds in the record, and what to do; and what is said where the file is not the one of the
-- report. These are the texts; src/texts.rt has them as bytes.
use Rattle.std.specs.Prelude.{ℕ, List, codes}

abbrev pub truncated : List ℕ
truncated = codes "The file ends before the record does: its last record terminator is missing."

abbrev pub truncated_advice : List ℕ
truncated_advice = codes "Have the file delivered again; if only the terminator is missing, append the byte 0x1D."

abbrev pub too_long : List ℕ
too_long = codes "The record has more than 99,999 bytes, the most that ISO 2709 can say."

abbrev pub too_long_advice : List ℕ
too_long_advice = codes "Look whether two records have grown together because a record terminator was lost; else shorten the record in its own system."

abbrev pub too_short : List ℕ
too_short = codes "There are fewer than 26 bytes up to this record terminator, too few for a record."

abbrev pub too_short_advice : List ℕ
too_short_advice = codes "Nothing, where it is a stray terminator: no record was lost."

abbrev pub length_digits : List ℕ
length_digits = codes "The record does not begin with its length in five digits (leader 00-04)."

abbrev pub length_digits_advice : List ℕ
length_digits_advice = codes "Look for bytes in front of the record: a byte order mark, text, the rest of a damaged record."

abbrev pub length_differs : List ℕ
length_differs = codes "The length in the leader (00-04) is not the length of the record in bytes."

abbrev pub length_differs_advice : List ℕ
length_differs_advice = codes "Count lengths in bytes and not in characters; look whether the next good record stands in the same frame, because a record terminator was lost."

abbrev pub base_address : List ℕ
base_address = codes "The base address in the leader (12-16) does not fit the directory."

abbrev pub base_address_advice : List ℕ
base_address_advice = codes "Have the record delivered again: its directory is damaged."

abbrev pub leader_counts : List ℕ
leader_counts = codes "A byte of the leader may not stand where it does: 10 and 11 are 2, 20 to 22 are 4, 5 and 0, and all are printable. The place is its offset."

abbrev pub leader_counts_advice : List ℕ
leader_counts_advice = codes "Set these bytes of the leader, as yaz-marcdump -l does."

abbrev pub entry_digits : List ℕ
entry_digits = codes "The length or the start in this entry of the directory is not all digits."

abbrev pub entry_digits_advice : List ℕ
entry_digits_advice = codes "Have the record delivered again: its directory is damaged."

abbrev pub tag : List ℕ
tag = codes "The tag of this entry is not three ASCII letters or digits."

abbrev pub tag_advice : List ℕ
tag_advice = codes "Have the record delivered again: its directory is damaged."

abbrev pub tiling : List ℕ
tiling = codes "The length and the start in this entry do not fit the fields: they overlap, leave a gap, or do not end where the field does."

abbrev pub tiling_advice : List ℕ
tiling_advice = codes "Have the record delivered again, with lengths counted in bytes and not in characters."

abbrev pub status : List ℕ
status = codes "The record's status (leader 05) is none of a, c, d, n and p."

abbrev pub status_advice : List ℕ
status_advice = codes "Set the status: n, c, a or p loads the record, and d withdraws it."

abbrev pub unknown_coding : List ℕ
unknown_coding = codes "The character coding (leader 09) is neither blank (MARC-8) nor a (UTF-8)."

abbrev pub unknown_coding_advice : List ℕ
unknown_coding_advice = codes "Convert the record to UTF-8 and set leader 09 to a."

abbrev pub coded : List ℕ
coded = codes "This field has accents or another script, but leader 09 is blank (MARC-8), of which only ASCII is read."

abbrev pub coded_advice : List ℕ
coded_advice = codes "Convert the record from MARC-8 to UTF-8 and set leader 09 to a; where the bytes are UTF-8 already, set leader 09 alone."

abbrev pub not_utf8 : List ℕ
not_utf8 = codes "Leader 09 says UTF-8, and the bytes of this field are not UTF-8."

abbrev pub not_utf8_advice : List ℕ
not_utf8_advice = codes "Convert the field from the coding that it is really in, mostly Latin-1."

abbrev pub control_shape : List ℕ
control_shape = codes "A control field (00X) has a subfield delimiter."

abbrev pub control_shape_advice : List ℕ
control_shape_advice = codes "Move the text of this field to a field that may have subfields, or remove it."

abbrev pub data_shape : List ℕ
data_shape = codes "This field has not two indicators and then subfields, each with its code."

abbrev pub data_shape_advice : List ℕ
data_shape_advice = codes "Add the indicators or the subfield code, or remove the empty subfield."

abbrev pub no_control_number : List ℕ
no_control_number = codes "There is no control number (field 001), without which a record can be neither corrected nor withdrawn."

abbrev pub no_control_number_advice : List ℕ
no_control_number_advice = codes "Add a 001 with the record's number in its own system, the same from night to night."

abbrev pub bad_control_number : List ℕ
bad_control_number = codes "This 001 is a second one, or not 1 to 64 printable ASCII bytes."

abbrev pub bad_control_number_advice : List ℕ
bad_control_number_advice = codes "Keep one 001, of at most 64 printable ASCII bytes."

abbrev pub repeated : List ℕ
repeated = codes "This field stands a second time and may stand once: 003, 005, 010, 040, 240, or one of 100, 110, 111 and 130."

abbrev pub repeated_advice : List ℕ
repeated_advice = codes "Move a second author to 700, 710 or 711; remove any other."

abbrev pub no_fixed_008 : List ℕ
no_fixed_008 = codes "There is no field 008."

abbrev pub no_fixed_008_advice : List ℕ
no_fixed_008_advice = codes "Add an 008 of 40 bytes."

abbrev pub bad_fixed_008 : List ℕ
bad_fixed_008 = codes "This 008 is a second one, or has not 40 bytes."

abbrev pub bad_fixed_008_advice : List ℕ
bad_fixed_008_advice = codes "Keep one 008; where blanks at its end were cut off, fill it up to 40 bytes."

abbrev pub no_title : List ℕ
no_title = codes "There is no title (field 245): often it is no bibliographic record."

abbrev pub no_title_advice : List ℕ
no_title_advice = codes "Add a 245, or leave the record out where it is an authority, a holding or an item."

abbrev pub second_title : List ℕ
second_title = codes "This is a second 245."

abbrev pub second_title_advice : List ℕ
second_title_advice = codes "Keep one 245; make the other a 246."

abbrev pub no_rule : List ℕ
no_rule = codes "The file is not the one of the report: the record of this number breaks no rule."

abbrev pub other_rule : List ℕ
other_rule = codes "The file is not the one of the report: the record of this number breaks another rule, or this one elsewhere."

abbrev pub other_file_advice : List ℕ
other_file_advice = codes "Name the file as it was when the report was written, or have this file checked again."
