pub mod MemberFields
