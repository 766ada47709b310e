mod Paging
